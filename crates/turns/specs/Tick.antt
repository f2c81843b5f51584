-- One tick: the arrivals that are due, then the waits, then one step, of the one that has waited longest.
use Rattle.std.specs.Prelude.{ℕ, zero, suc, Bool, cond, not, ◌&&◌, ◌||◌, List, ◌==◌, nat_lt, slice_index, slice_set}
use Rattle.rules.specs.Tests.{is_empty}
use Rattle.rules.specs.Field.{Field}
use Rattle.rules.specs.Shuttle.{Shuttle, Fleet}
use Rattle.rules.specs.Event.{step, arrive, grants, happens}

-- the arrival of shuttle i is due: its mark is 1
unfoldable pub is_due : List ℕ → ℕ → Bool
is_due marks i = slice_index marks i == 1

-- the arrival of shuttle i is made if it is due; of one that does not move it changes nothing
unfoldable pub come : Field → List ℕ → ℕ → Fleet → Fleet
come f marks i g = cond (is_due marks i) (happens f g (arrive i)) g

-- the fleet after the arrivals that are due of the first k shuttles, in order
unfoldable pub come_to : Field → Fleet → List ℕ → ℕ → Fleet
come_to f g marks zero = g
come_to f g marks (suc k) = come f marks k (come_to f g marks k)

-- the fleet after all arrivals that are due: the steps are chosen from here
unfoldable pub all_come : Field → Fleet → List ℕ → Fleet
all_come f g marks = come_to f g marks f.shuttles

-- a shuttle waits: it stands with something left
unfoldable pub waits : Shuttle → Bool
waits s = not s.moving && not (is_empty s.route)

-- how long it has waited then: one more if it waits, else 0
unfoldable pub one_more : Shuttle → ℕ → ℕ
one_more s w = cond (waits s) (suc w) 0

-- the waits with those of the first k shuttles counted
unfoldable pub counted_to : Fleet → List ℕ → ℕ → List ℕ
counted_to g ws zero = ws
counted_to g ws (suc k) = slice_set (counted_to g ws k) k (one_more (g k) (slice_index ws k))

-- the waits with all counted
unfoldable pub counted : Field → Fleet → List ℕ → List ℕ
counted f g ws = counted_to g ws f.shuttles

-- shuttle k is to be chosen rather than the best before it: its step is granted, and there is none before it or it has waited longer
unfoldable pub better : Field → Fleet → List ℕ → (best k : ℕ) → Bool
better f g ws best k = grants f g k && (best == f.shuttles || nat_lt (slice_index ws best) (slice_index ws k))

-- of the first k shuttles whose steps are granted the one that has waited longest, of equals the lowest; the number of shuttles if there is
-- none
unfoldable pub chosen_to : Field → Fleet → List ℕ → ℕ → ℕ
chosen_to f g ws zero = f.shuttles
chosen_to f g ws (suc k) = cond (better f g ws (chosen_to f g ws k) k) k (chosen_to f g ws k)

-- the one of all shuttles
unfoldable pub chosen : Field → Fleet → List ℕ → ℕ
chosen f g ws = chosen_to f g ws f.shuttles

-- what a tick comes to: the fleet, the waits, and whose step was granted, or the number of shuttles where none was
pub record Turn : Type 0 where
  pub fleet : Fleet
  pub waits : List ℕ
  pub whose : ℕ

-- the step of shuttle i is granted, and its wait is 0; for the number of shuttles nothing changes
unfoldable pub granted_to : Field → Fleet → List ℕ → ℕ → Turn
granted_to f g ws i = record { fleet = happens f g (step i); waits = slice_set ws i 0; whose = i }

-- one step is granted, or none, after the waits were counted
unfoldable pub choose : Field → Fleet → List ℕ → Turn
choose f g ws = granted_to f g ws (chosen f g ws)

-- a tick
unfoldable pub tick : Field → Fleet → (waits marks : List ℕ) → Turn
tick f g ws marks = choose f (all_come f g marks) (counted f (all_come f g marks) ws)
