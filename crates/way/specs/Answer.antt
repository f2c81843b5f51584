-- What an answer says.
use Rattle.std.specs.Prelude.{◌≡◌, ℕ, ◌<◌, List, ◌++◌, length, drop, Option, Some, None, Result, Ok, Err}
use Rattle.rules.specs.Field.{Field}
use Rattle.rules.specs.Memory.{FieldNumbers, field_in}
use Rattle.field.specs.Refusals.{number_of}
use Rattle.field.specs.declared.refusal.Refusal.{Refusal}
use Rattle.ways.specs.Asked.{way_refusal}
use Rattle.ways.specs.Shortest.{Shortest, Nowhere}

-- of a question that is turned away by number n, or not if that is 0, with a lent part that holds `before` and then `after`:
-- the route that is found is the first of the shortest, and as many places as it has are written; there is none; or it is turned away
abbrev pub Answers : Field → (shuttle from : ℕ) → (row : List ℕ) → ℕ → (before after : List ℕ) → Result (Option ℕ) Refusal → Type 0
Answers f i c row n before after (Ok (Some k)) = (n ≡ 0) × ((r : List ℕ) × (length r ≡ k) × Shortest f i c row r × (after ≡ r ++ drop k before))
Answers f i c row n before after (Ok None) = (n ≡ 0) × Nowhere f i c row × (after ≡ before)
Answers f i c row n before after (Err r) = (number_of r ≡ n) × (0 < n) × (after ≡ before)

-- the same of the numbers that the entry is lent
abbrev pub Answered : FieldNumbers → (shuttle from : ℕ) → (row before after : List ℕ) → Result (Option ℕ) Refusal → Type 0
Answered lent i c row before after = Answers (field_in lent) i c row (way_refusal lent i c row (length before)) before after
