-- Routes: where a shuttle may go, square by square, until it is in its bay.
use Rattle.std.specs.Prelude.{ℕ, suc, Bool, cond, not, ◌&&◌, ◌||◌, List, [], ◌∷◌, ◌==◌}
use Rattle.rules.specs.Tests.{is_empty}
use Rattle.rules.specs.Field.{Field, is_bay, free_square, beside}

-- shuttle i may go from square c to square d, with `rest` to go after it: d is beside c, no wall, and no bay but its own at the very end
unfoldable pub step_ok : Field → ℕ → ℕ → ℕ → List ℕ → Bool
step_ok f i c d rest = beside f c d && (free_square f d && (not (is_bay f d) || (d == f.bay i && is_empty rest)))

-- a route of shuttle i from square c: each step may be made, and it ends in the bay; of no squares it is one only in the bay
unfoldable pub route_ok : Field → ℕ → ℕ → List ℕ → Bool
route_ok f i c [] = c == f.bay i
route_ok f i c (d ∷ ds) = step_ok f i c d ds && route_ok f i d ds

-- the first step, from 0, that may not be made; the number of steps if each may
unfoldable pub first_wrong : Field → ℕ → ℕ → List ℕ → ℕ
first_wrong f i c [] = 0
first_wrong f i c (d ∷ ds) = cond (step_ok f i c d ds) (suc (first_wrong f i d ds)) 0
