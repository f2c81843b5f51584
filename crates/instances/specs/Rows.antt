-- What the promises suppose of a row of events holds after some row in the small hall, so that none of them is empty.
use Rattle.std.specs.Prelude.{◌≡◌, ℕ, ◌<◌, true, false, List, [], ◌∷◌}
use Rattle.rules.specs.Tests.{is_empty}
use Rattle.rules.specs.Route.{route_ok}
use Rattle.rules.specs.Shuttle.{Fleet, holds, held_by_other, next_square, put, stepped}
use Rattle.rules.specs.Safe.{safe}
use Rattle.rules.specs.Event.{Event, order, step, arrive, grants, does, after}
use Rattle.promise.specs.Promise.{Drives}
use Rattle.examples.specs.Hall.{hall}

-- shuttle 0 is given 1 2 1 0, and shuttle 1 the way 2 1 2 3; latest first
abbrev pub both_ordered : List Event
both_ordered = order 1 (2 ∷ 1 ∷ 2 ∷ 3 ∷ []) ∷ order 0 (1 ∷ 2 ∷ 1 ∷ 0 ∷ []) ∷ []

-- shuttle 0 is on its way to 1
abbrev pub one_moves : List Event
one_moves = step 0 ∷ both_ordered

-- shuttle 0 stands on 1 with nothing but 0 left, and shuttle 1 has come to 2, with 1 2 3 left
abbrev pub meeting : Fleet
meeting = after hall (arrive 1 ∷ step 1 ∷ order 1 (2 ∷ 1 ∷ 2 ∷ 3 ∷ []) ∷ arrive 0 ∷ step 0 ∷ order 0 (1 ∷ 0 ∷ []) ∷ [])

pub record Hypotheses : Type 0 where
  -- a shuttle has something left; its step is granted
  pub something_left : is_empty (after hall both_ordered 0).route ≡ false
  pub granted : grants hall (after hall both_ordered) 0 ≡ true
  -- a shuttle moves, and holds two squares
  pub moves : (after hall one_moves 0).moving ≡ true
  pub holds_it : holds (after hall one_moves 0) 1 ≡ true
  pub holds_behind : holds (after hall one_moves 0) 0 ≡ true
  -- a step and an arrival are made after a row
  pub drives : Drives hall both_ordered (arrive 0 ∷ step 0 ∷ [])
  -- no step and no arrival can be made
  pub no_step : (i : ℕ) → i < 2 → does hall (after hall []) (step i) ≡ false
  pub no_arrival : (i : ℕ) → i < 2 → does hall (after hall []) (arrive i) ≡ false
  -- a shuttle stands with nothing left while another moves, and there is a route for it
  pub other_moves : (after hall (step 0 ∷ order 0 (1 ∷ 0 ∷ []) ∷ []) 0).moving ≡ true
  pub stands : (after hall (step 0 ∷ order 0 (1 ∷ 0 ∷ []) ∷ []) 1).moving ≡ false
  pub nothing_left : is_empty (after hall (step 0 ∷ order 0 (1 ∷ 0 ∷ []) ∷ []) 1).route ≡ true
  pub a_route : route_ok hall 1 3 (2 ∷ 1 ∷ 2 ∷ 3 ∷ []) ≡ true
  -- a step is not granted for one of the four reasons alone: it moves; it has nothing left; its square is held; all would not be safe
  pub since_it_moves : (grants hall (after hall one_moves) 0 ≡ false) × (is_empty (after hall one_moves 0).route ≡ false)
  pub since_nothing_is_left : (grants hall (after hall []) 0 ≡ false) × ((after hall [] 0).moving ≡ false)
  pub since_it_is_held : (grants hall meeting 1 ≡ false) × ((meeting 1).moving ≡ false) × (next_square (meeting 1).route ≡ 1)
      × (held_by_other meeting 1 1 2 ≡ true)
  pub since_not_safe : (grants hall (after hall one_moves) 1 ≡ false) × ((after hall one_moves 1).moving ≡ false)
      × (held_by_other (after hall one_moves) 1 (next_square (after hall one_moves 1).route) 2 ≡ false)
      × (safe 2 (put (after hall one_moves) 1 (stepped (after hall one_moves 1))) ≡ false)
