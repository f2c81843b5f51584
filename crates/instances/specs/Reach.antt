-- What is promised of reached memory is promised of something: some is reached with a shuttle that has squares left, that moves, and
-- whose step is refused.
use Rattle.std.specs.Prelude.{◌≡◌, ℕ, true, false, List, [], ◌∷◌}
use Rattle.rules.specs.Field.{sound}
use Rattle.rules.specs.Event.{does}
use Rattle.rules.specs.Memory.{FieldNumbers, field_numbers, field_in, field_ok, shuttle_in, event_in, refusal}
use Rattle.calls.specs.Call.{Reached}

-- three squares in a row, the bays at the ends
abbrev pub row_of_three : FieldNumbers
row_of_three = field_numbers 3 1 (0 ∷ 0 ∷ 0 ∷ []) (0 ∷ 2 ∷ [])

-- the field is accepted and sound
abbrev pub RowIsAccepted : Type 0
RowIsAccepted = (field_ok row_of_three ≡ true) × (sound (field_in row_of_three) ≡ true)

-- some memory is reached in which shuttle 0 moves with something left, and a step of shuttle 1, asked for by a call that isn't turned
-- away, is not granted; a call of another kind is turned away
pub record Busy (m : List ℕ) : Type 0 where
  pub reached : Reached row_of_three m
  pub moves : (shuttle_in m 0).moving ≡ true
  pub something_left : (shuttle_in m 0).route ≡ 0 ∷ []
  pub asked : refusal row_of_three m 1 1 [] ≡ 0
  pub not_granted : does (field_in row_of_three) (shuttle_in m) (event_in 1 1 []) ≡ false
  pub turned_away : refusal row_of_three m 3 1 [] ≡ 3

abbrev pub BusyIsReached : Type 0
BusyIsReached = (m : List ℕ) × Busy m
