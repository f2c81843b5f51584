-- A field of squares with walls, and a bay for each shuttle.
use Rattle.std.specs.Prelude.{ℕ, suc, ◌+◌, ◌*◌, ◌/◌, Bool, not, ◌&&◌, ◌||◌, ◌==◌, nat_eq, nat_le, nat_lt}
use Rattle.rules.specs.Tests.{every_to, any_to}

-- squares are numbered row by row from 0; `bay i` is the bay of shuttle i
pub record Field : Type 0 where
  pub across : ℕ
  pub down : ℕ
  pub wall : ℕ → Bool
  pub shuttles : ℕ
  pub bay : ℕ → ℕ

-- c is the bay of one of the first n shuttles
unfoldable pub is_bay_to : Field → ℕ → ℕ → Bool
is_bay_to f n c = any_to (λ i. nat_eq (f.bay i) c) n

-- c is somebody's bay
unfoldable pub is_bay : Field → ℕ → Bool
is_bay f c = is_bay_to f f.shuttles c

-- c is a square of the field and no wall
unfoldable pub free_square : Field → ℕ → Bool
free_square f c = nat_lt c (f.across * f.down) && not (f.wall c)

-- the bay of shuttle i is a free square and no bay of a shuttle before it
unfoldable pub bay_ok : Field → ℕ → Bool
bay_ok f i = free_square f (f.bay i) && not (is_bay_to f i (f.bay i))

-- a field that can be driven on: it has a square, and each bay is a free square and nobody else's
unfoldable pub sound : Field → Bool
sound f = nat_le 1 f.across && (nat_le 1 f.down && every_to (bay_ok f) f.shuttles)

-- one of two squares lies right of the other, in the same row, or below it
unfoldable pub beside : Field → ℕ → ℕ → Bool
beside f c d =
    (c / f.across == d / f.across && (suc c == d || suc d == c))
    || (c + f.across == d || d + f.across == c)
