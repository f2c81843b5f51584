-- The order of routes: by right, down, left, up, compared step by step.
use Rattle.std.specs.Prelude.{ℕ, Bool, false, ◌&&◌, ◌||◌, List, [], ◌∷◌, ◌==◌, nat_lt}
use Rattle.rules.specs.Field.{Field}
use Rattle.field.specs.Directions.{rank, direction_to}

-- the number of a step from square c to a square d beside it: 0 right, 1 down, 2 left, 3 up
unfoldable pub turn : Field → ℕ → ℕ → ℕ
turn f c d = rank (direction_to f c d)

-- of two routes from square c the first comes before the second: where their steps first differ, its step has the smaller number
unfoldable pub before : Field → ℕ → List ℕ → List ℕ → Bool
before f c [] s = false
before f c (d ∷ ds) [] = false
before f c (d ∷ ds) (e ∷ es) = nat_lt (turn f c d) (turn f c e) || (d == e && before f d ds es)
