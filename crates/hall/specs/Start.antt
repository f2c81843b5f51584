-- What the start answers and leaves.
use Rattle.std.specs.Prelude.{◌≡◌, ℕ, zero, suc, ◌+◌, ◌*◌, cond, List, length, ◌==◌, Result, Ok, Err}
use Rattle.rules.specs.Memory.{FieldNumbers, field_in, field_ok, started}
use Rattle.calls.specs.Call.{Reached, Promised}
use Rattle.field.specs.declared.refusal.Refusal.{Refusal}
use Rattle.field.specs.Refusals.{number_of}

-- the number by which it was turned away, or 0
abbrev pub turned_away : Result (Unit {0}) Refusal → ℕ
turned_away (Ok _) = 0
turned_away (Err refusal) = number_of refusal

-- the answer as a number: started 0, refusal n as 16 + n
abbrev pub start_number : Result (Unit {0}) Refusal → ℕ
start_number (Ok _) = 0
start_number (Err refusal) = 16 + number_of refusal

-- the number by which it is turned away: 1 for the field, 2 for memory of another length; 0 if it is not
unfoldable pub start_refusal : FieldNumbers → (memory : List ℕ) → ℕ
start_refusal lent m = cond (field_ok lent) (cond (length m == 260 * length lent.bays) 0 2) 1

-- all are written at home, or nothing changes; the answer as a number
unfoldable pub StartLeft : (refused : ℕ) → FieldNumbers → (memory : List ℕ) → (answer : ℕ) → (left : List ℕ) → Type 0
StartLeft zero lent m n m₁ = (n ≡ 0) × (m₁ ≡ started (field_in lent) (length lent.bays) m)
StartLeft (suc k) lent m n m₁ = (n ≡ 16 + suc k) × (m₁ ≡ m)

abbrev pub StartSays : FieldNumbers → (memory : List ℕ) → (answer : ℕ) → (left : List ℕ) → Type 0
StartSays lent m n m₁ = StartLeft (start_refusal lent m) lent m n m₁

-- what the start answers and leaves; where it was not turned away, calls have led to the memory left, and it keeps every promise
pub record StartAnswered (lent : FieldNumbers) (m : List ℕ) (answer : ℕ) (left : List ℕ) : Type 0 where
  pub says : StartSays lent m answer left
  pub begins : answer ≡ 0 → Reached lent left × Promised lent left
