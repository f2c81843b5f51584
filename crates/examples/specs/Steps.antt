-- Which steps are granted in the small hall. 'Square: what is left' is written `standing square left`.
use Rattle.std.specs.Prelude.{◌≡◌, ℕ, true, false, List, [], ◌∷◌, drop}
use Rattle.rules.specs.Field.{sound}
use Rattle.rules.specs.Shuttle.{Fleet, holds}
use Rattle.rules.specs.Safe.{Safe, safe}
use Rattle.rules.specs.Event.{Event, order, step, arrive, grants, after}
use Rattle.examples.specs.Hall.{hall, standing, fleet, each_happens}

-- the small hall can be driven on
abbrev pub HallIsSound : Type 0
HallIsSound = sound hall ≡ true

-- 0: 1 2 1 0 and 3: 2 1 2 3
abbrev pub both_at_home : Fleet
both_at_home = fleet (standing 0 (1 ∷ 2 ∷ 1 ∷ 0 ∷ []) ∷ standing 3 (2 ∷ 1 ∷ 2 ∷ 3 ∷ []) ∷ [])

-- all is safe, and either may step
abbrev pub EitherMayStep : Type 0
EitherMayStep = (safe 2 both_at_home ≡ true) × Safe 2 both_at_home × (grants hall both_at_home 0 ≡ true) × (grants hall both_at_home 1 ≡ true)

-- 1: 2 1 0 and 3: 2 1 2 3
abbrev pub one_out : Fleet
one_out = fleet (standing 1 (2 ∷ 1 ∷ 0 ∷ []) ∷ standing 3 (2 ∷ 1 ∷ 2 ∷ 3 ∷ []) ∷ [])

-- all is safe, and only shuttle 0 may step
abbrev pub OneMayStep : Type 0
OneMayStep = (safe 2 one_out ≡ true) × Safe 2 one_out × (grants hall one_out 0 ≡ true) × (grants hall one_out 1 ≡ false)

-- 1: 2 6 5 4 0 and 2: 1 5 6 7 3: each stands on the other's next square
abbrev pub blocked_pair : Fleet
blocked_pair = fleet (standing 1 (2 ∷ 6 ∷ 5 ∷ 4 ∷ 0 ∷ []) ∷ standing 2 (1 ∷ 5 ∷ 6 ∷ 7 ∷ 3 ∷ []) ∷ [])

-- that is not safe, though neither moves and every square below them is free
abbrev pub BlockedPairIsNotSafe : Type 0
BlockedPairIsNotSafe = safe 2 blocked_pair ≡ false

-- shuttle 0 is driven over 1 2 1 to its bay while shuttle 1 waits with 2 1 2 3 left; latest first
abbrev pub whole_way : List Event
whole_way =
    arrive 0 ∷ step 0 ∷ arrive 0 ∷ step 0 ∷ arrive 0 ∷ step 0 ∷ arrive 0 ∷ step 0 ∷ order 1 (2 ∷ 1 ∷ 2 ∷ 3 ∷ []) ∷ order 0 (1 ∷ 2 ∷ 1 ∷ 0 ∷ []) ∷ []

-- the hall with so many events of that row to go
abbrev pub to_go : ℕ → Fleet
to_go n = after hall (drop n whole_way)

-- each event of the row happens
abbrev pub EachEventHappens : Type 0
EachEventHappens = each_happens hall whole_way ≡ true

-- while shuttle 0 moves from 0 to 1 it holds both, and when it has come it holds 1 alone
abbrev pub MovingHoldsBoth : Type 0
MovingHoldsBoth =
    ((to_go 7 0).moving ≡ true) × (holds (to_go 7 0) 0 ≡ true) × (holds (to_go 7 0) 1 ≡ true)
    × (holds (to_go 6 0) 0 ≡ false) × (holds (to_go 6 0) 1 ≡ true)

-- shuttle 1 may step before shuttle 0 has, and then only when shuttle 0 has come back to 1 with nothing but 0 left, or later
abbrev pub WhenTheOtherMayStep : Type 0
WhenTheOtherMayStep =
    (grants hall (to_go 8) 1 ≡ true) × (grants hall (to_go 7) 1 ≡ false) × (grants hall (to_go 6) 1 ≡ false)
    × (grants hall (to_go 5) 1 ≡ false) × (grants hall (to_go 4) 1 ≡ false) × (grants hall (to_go 3) 1 ≡ false)
    × (to_go 2 0 ≡ standing 1 (0 ∷ [])) × (grants hall (to_go 2) 1 ≡ true) × (grants hall (to_go 1) 1 ≡ true)
    × (grants hall (to_go 0) 1 ≡ true)
