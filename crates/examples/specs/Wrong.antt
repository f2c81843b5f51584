-- States that tell these rules from others that look like them.
use Rattle.std.specs.Prelude.{◌≡◌, ℕ, Bool, true, false, cond, List, [], ◌∷◌, reverse}
use Rattle.rules.specs.Tests.{every_to, is_empty}
use Rattle.rules.specs.Field.{Field, sound}
use Rattle.rules.specs.Route.{route_ok}
use Rattle.rules.specs.Shuttle.{Fleet, held_by_other}
use Rattle.rules.specs.Safe.{Safe, safe, clear_of, all_to, without, try}
use Rattle.rules.specs.Event.{Event, order, step, arrive, takes, grants, after}
use Rattle.examples.specs.Hall.{open_field, hall, standing, fleet, each_happens}

-- trying each of `some` once, in their order: it is taken out of those left if it is clear of them; are none left at the end?
unfoldable pub pass : Fleet → (left some : List ℕ) → Bool
pass g left [] = is_empty left
pass g left (i ∷ is) = cond (clear_of g i left) (pass g (without i left) is) (pass g left is)

-- one pass over the first n shuttles, from number 0 on
unfoldable pub safe_in_one_pass : ℕ → Fleet → Bool
safe_in_one_pass n g = pass g (all_to n) (reverse (all_to n))

-- shuttle 1 has come to square 1 and has 2 3 left; shuttle 0 is given 1 0; latest first
abbrev pub behind_the_other : List Event
behind_the_other = order 0 (1 ∷ 0 ∷ []) ∷ arrive 1 ∷ step 1 ∷ arrive 1 ∷ step 1 ∷ order 1 (2 ∷ 1 ∷ 2 ∷ 3 ∷ []) ∷ []

-- one pass is not enough: this row of events happens, all is safe after it, and one pass fails
abbrev pub OnePassFails : Type 0
OnePassFails =
    (each_happens hall behind_the_other ≡ true) × (safe 2 (after hall behind_the_other) ≡ true) × Safe 2 (after hall behind_the_other)
    × (safe_in_one_pass 2 (after hall behind_the_other) ≡ false)

-- six bays above and below a loop of six squares
--    0  1  2  3  4       .  b  b  b  .
--    5  6  7  8  9       .  o  o  o  .
--   10 11 12 13 14       .  o  o  o  .
--   15 16 17 18 19       .  b  b  b  .
abbrev pub loop : Field
loop = open_field 5 4 (2 ∷ 3 ∷ 18 ∷ 17 ∷ 16 ∷ 1 ∷ [])

-- each of six stands on the square before that of the next, round the loop, and has that and then its bay left
abbrev pub ring : Fleet
ring =
    fleet (
    standing 6 (7 ∷ 2 ∷ []) ∷ standing 7 (8 ∷ 3 ∷ []) ∷ standing 8 (13 ∷ 18 ∷ []) ∷ standing 13 (12 ∷ 17 ∷ [])
    ∷ standing 12 (11 ∷ 16 ∷ []) ∷ standing 11 (6 ∷ 1 ∷ []) ∷ [])

-- the last of them is still one square outside
abbrev pub ring_but_one : Fleet
ring_but_one =
    fleet (
    standing 6 (7 ∷ 2 ∷ []) ∷ standing 7 (8 ∷ 3 ∷ []) ∷ standing 8 (13 ∷ 18 ∷ []) ∷ standing 13 (12 ∷ 17 ∷ [])
    ∷ standing 12 (11 ∷ 16 ∷ []) ∷ standing 10 (11 ∷ 6 ∷ 1 ∷ []) ∷ [])

-- a ring of six is not safe, though any five of them could run home; and the step that would close it is not granted, though its square is free
pub record RingIsNotSafe : Type 0 where
  pub on_a_field : sound loop ≡ true
  pub with_routes : every_to (λ i. route_ok loop i (ring i).at (ring i).route) 6 ≡ true
  pub not_safe : safe 6 ring ≡ false
  pub any_five_run : every_to (λ i. try 5 ring (without i (all_to 6))) 6 ≡ true
  pub safe_before : safe 6 ring_but_one ≡ true
  pub free_square : held_by_other ring_but_one 5 11 6 ≡ false
  pub not_closed : grants loop ring_but_one 5 ≡ false

-- an order is taken while another shuttle is on its way
abbrev pub TakenWhileAnotherMoves : Type 0
TakenWhileAnotherMoves =
    ((after hall (step 1 ∷ order 1 (2 ∷ 3 ∷ []) ∷ []) 1).moving ≡ true)
    × (takes hall (after hall (step 1 ∷ order 1 (2 ∷ 3 ∷ []) ∷ [])) 0 (1 ∷ 2 ∷ 1 ∷ 0 ∷ []) ≡ true)

-- no second step before the arrival, in any fleet on any field
abbrev pub NoSecondStep : Type 0
NoSecondStep = (f : Field) (g : Fleet) (i : ℕ) → (g i).moving ≡ true → grants f g i ≡ false
