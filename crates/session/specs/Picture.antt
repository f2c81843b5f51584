-- The picture of the hall: rows of signs, each with an LF (10) at its end.
use Rattle.std.specs.Prelude.{ℕ, zero, suc, ◌+◌, ◌*◌, Bool, cond, List, [], ◌∷◌, ◌++◌, map, Some, None, Option, ◌==◌}
use Rattle.std.specs.List.{range_with_len, flat_map}
use Rattle.rules.specs.Field.{Field}
use Rattle.rules.specs.Shuttle.{Fleet, holds}

-- a wall is # (35), a free square a dot (46)
abbrev pub ground : Field → ℕ → ℕ
ground f c = cond (f.wall c) 35 46

-- the last of the first n shuttles that passes a test
unfoldable pub last_of : (n : ℕ) → (test : ℕ → Bool) → Option ℕ
last_of zero test = None
last_of (suc n) test = cond (test n) (Some n) (last_of n test)

-- the shuttle whose bay is square c; and the one that holds it, which is on it or moves and has it behind
abbrev pub bay_at : Field → (c : ℕ) → Option ℕ
bay_at f c = last_of f.shuttles (λ i. f.bay i == c)

abbrev pub holder_of : Field → Fleet → (c : ℕ) → Option ℕ
holder_of f g c = last_of f.shuttles (λ i. holds (g i) c)

-- the letter of a shuttle, counted on from `a`; another sign if there is none
abbrev pub letter_or : (a other : ℕ) → Option ℕ → ℕ
letter_or a other None = other
letter_or a other (Some i) = a + i

-- the sign of square c: the capital letter (from 65 on) of the shuttle that holds it, the small letter (from 97 on) of the one whose bay it is, or the ground
abbrev pub sign_at : Field → Fleet → ℕ → ℕ
sign_at f g c = letter_or 65 (letter_or 97 (ground f c) (bay_at f c)) (holder_of f g c)

-- row y, sign by sign
abbrev pub picture_row : Field → Fleet → ℕ → List ℕ
picture_row f g y = map (λ x. sign_at f g (y * f.across + x)) (range_with_len 0 f.across) ++ 10 ∷ []

abbrev pub picture_of : Field → Fleet → List ℕ
picture_of f g = flat_map (picture_row f g) (range_with_len 0 f.down)
