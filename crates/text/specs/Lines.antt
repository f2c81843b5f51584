-- A text as lines, and a line as words.
use Rattle.std.specs.Prelude.{ℕ, Bool, false, cond, ◌&&◌, ◌||◌, List, [], ◌∷◌, map, ◌==◌}
use Rattle.std.specs.Borrow.{Bor}
use Rattle.rules.specs.Tests.{is_empty}

-- the pieces that a list of references points to
abbrev pub pieces : List (Bor (List ℕ)) → List (List ℕ)
pieces rs = map (λ r. r.now) rs

-- the first byte is b
unfoldable pub first_is : ℕ → List ℕ → Bool
first_is b [] = false
first_is b (c ∷ cs) = c == b

-- the pieces with b put before the first of them
unfoldable pub put_first : ℕ → List (List ℕ) → List (List ℕ)
put_first b [] = (b ∷ []) ∷ []
put_first b (p ∷ ps) = (b ∷ p) ∷ ps

-- the lines of a text: LF (10) ends one, and a CR (13) right before an LF is no byte of its line; what follows the last LF is a line if it has a byte
unfoldable pub lines : List ℕ → List (List ℕ)
lines [] = []
lines (b ∷ bs) = cond (b == 10) ([] ∷ lines bs) (cond (b == 13 && first_is 10 bs) (lines bs) (put_first b (lines bs)))

-- the words of a line: what stands between blanks (32)
unfoldable pub words : List ℕ → List (List ℕ)
words [] = []
words (b ∷ bs) = cond (b == 32) (words bs) (cond (is_empty bs || first_is 32 bs) ((b ∷ []) ∷ words bs) (put_first b (words bs)))
