-- One that never gets a step: a hall of two rows, `c..` above `a.b`, in which b and c are given the same routes again and again.
use Rattle.std.specs.Prelude.{◌≡◌, ℕ, suc, ◌+◌, ◌<◌, true, false, cond, ◌⊎◌, List, [], ◌∷◌, nat_le, slice_index, slice_index_or}
use Rattle.rules.specs.Field.{Field, sound}
use Rattle.rules.specs.Route.{route_ok}
use Rattle.rules.specs.Shuttle.{at_home}
use Rattle.turns.specs.Tick.{Turn}
use Rattle.turns.specs.Home.{ArrivalsWithin}
use Rattle.turns.specs.Night.{night}

-- three squares across and two down, no wall; the bays of a, b and c
unfoldable pub corner : Field
corner = record { across = 3; down = 2; wall = λ _. false; shuttles = 3; bay = λ i. slice_index (3 ∷ 5 ∷ 0 ∷ []) i }

-- the one route of each
unfoldable pub way : ℕ → List ℕ
way i = slice_index_or ((4 ∷ 1 ∷ 2 ∷ 1 ∷ 4 ∷ 3 ∷ []) ∷ (2 ∷ 1 ∷ 4 ∷ 5 ∷ []) ∷ (1 ∷ 4 ∷ 1 ∷ 0 ∷ []) ∷ []) i []

-- before which tick, from 0, each is given it first: a before the sixth, b before the third, c before the first
unfoldable pub since : ℕ → ℕ
since i = slice_index (5 ∷ 2 ∷ 0 ∷ []) i

-- from then on it is given it before every tick, and so takes it as soon as it is home
unfoldable pub again : ℕ → ℕ → List ℕ
again t i = cond (nat_le (since i) t) (way i) []

-- all arrivals are due in every tick: each comes one tick after its step
unfoldable pub at_once : ℕ → List ℕ
at_once t = 1 ∷ 1 ∷ 1 ∷ []

-- the hall after t ticks, from all at home
unfoldable pub hall : ℕ → Turn
hall = night corner (record { fleet = at_home corner; waits = 0 ∷ 0 ∷ 0 ∷ []; whose = 3 }) again at_once

pub record Starves : Type 0 where
  -- nothing is wrong with the field, the arrivals or the orders
  pub field_sound : sound corner ≡ true
  pub within : ArrivalsWithin corner (λ t. (hall t).fleet) at_once (λ t. (hall (suc t)).whose) 1
  pub ways_good : (i : ℕ) → i < 3 → route_ok corner i (corner.bay i) (way i) ≡ true
  -- every tick grants a step, and never that of a
  pub others_go : (t : ℕ) → ((hall (suc t)).whose ≡ 1) ⊎ ((hall (suc t)).whose ≡ 2)
  -- from the sixth tick on a stands in its bay with all its route left, and has waited one tick more after each
  pub stands : (t : ℕ) → (((hall (6 + t)).fleet 0).at ≡ 3) × (((hall (6 + t)).fleet 0).moving ≡ false) × (((hall (6 + t)).fleet 0).route ≡ way 0)
  pub longer : (t : ℕ) → slice_index (hall (6 + t)).waits 0 ≡ suc t
  -- the fleet is the same again after eight ticks, for ever
  pub repeats : (t : ℕ) → (hall (6 + (t + 8))).fleet ≡ (hall (6 + t)).fleet
  -- in which b and c come home
  pub b_home : (hall 10).fleet 1 ≡ at_home corner 1
  pub c_home : (hall 6).fleet 2 ≡ at_home corner 2
