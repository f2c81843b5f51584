-- Routes as letters: l left, r right, u up, d down, from a square on.
use Rattle.std.specs.Prelude.{ℕ, List, [], ◌∷◌, Option, unwrap_or}
use Rattle.rules.specs.Field.{Field}
use Rattle.field.specs.declared.direction.Direction.{Direction}
use Rattle.field.specs.Directions.{direction_of, next}
use Rattle.text.specs.Gathered.{gathered}

-- the ways of letters; none if a letter stands for no way
abbrev pub ways_in : (letters : List ℕ) → Option (List Direction)
ways_in letters = gathered direction_of [] letters

-- the square one step from c; where the step would lead over the edge, c itself, which is not beside itself, so that no route has such a step
abbrev pub moved : Field → (c : ℕ) → Direction → ℕ
moved f c w = unwrap_or (next f c w) c

-- the squares that the ways lead over, from c on
unfoldable pub squares_of : Field → (c : ℕ) → List Direction → List ℕ
squares_of f c [] = []
squares_of f c (w ∷ ws) = moved f c w ∷ squares_of f (moved f c w) ws
