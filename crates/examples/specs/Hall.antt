-- The small hall of the examples, and short ways to write shuttles, fleets and rows of events.
use Rattle.std.specs.Prelude.{ℕ, Bool, true, false, ◌&&◌, List, [], ◌∷◌, length, slice_index, slice_index_or}
use Rattle.rules.specs.Field.{Field}
use Rattle.rules.specs.Shuttle.{Shuttle, Fleet}
use Rattle.rules.specs.Event.{Event, does, after}

-- a field without walls
abbrev pub open_field : (across down : ℕ) → List ℕ → Field
open_field a d bays = record { across = a; down = d; wall = λ c. false; shuttles = length bays; bay = λ i. slice_index bays i }

-- four across and two down, the bays 0 and 3
--    0 1 2 3
--    4 5 6 7
abbrev pub hall : Field
hall = open_field 4 2 (0 ∷ 3 ∷ [])

-- it stands on square c with these squares left
abbrev pub standing : ℕ → List ℕ → Shuttle
standing c left = record { at = c; moving = false; behind = c; route = left }

-- these shuttles, from number 0 on
abbrev pub fleet : List Shuttle → Fleet
fleet shuttles i = slice_index_or shuttles i (standing 0 [])

-- each event of the row, the latest first, happens where it stands
unfoldable pub each_happens : Field → List Event → Bool
each_happens f [] = true
each_happens f (e ∷ es) = does f (after f es) e && each_happens f es
