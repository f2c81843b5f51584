-- The answers of the other functions, as one number: the low 8 bits say which, the bits above how long or whose.
use Rattle.std.specs.Prelude.{◌≡◌, ℕ, ◌+◌, ◌*◌, Some, None, Ok, Err, Option, Result, List}
use Rattle.rules.specs.Memory.{FieldNumbers}
use Rattle.field.specs.declared.refusal.Refusal.{Refusal}
use Rattle.field.specs.Refusals.{number_of}
use Rattle.way.specs.Answer.{Answered}

-- this kind with k above it, none 1, refusal n as 16 + n
abbrev pub number : (kind : ℕ) → Result (Option ℕ) Refusal → ℕ
number kind (Ok (Some k)) = 256 * k + kind
number kind (Ok None) = 1
number kind (Err r) = 16 + number_of r

-- n is the number of an answer that is right: a route of k squares is 2 with k above it
abbrev pub WaySays : FieldNumbers → (shuttle from : ℕ) → (row before after : List ℕ) → ℕ → Type 0
WaySays lent i c row before after n =
    (w : Result (Option ℕ) Refusal) × (n ≡ number 2 w) × Answered lent i c row before after w
