-- When a line has no prefix.
use Rattle.std.proofs.Common.{◌≡◌, ℕ, ◌<◌, false, List, [], ◌∷◌, length, refl, arith}
use Rattle.std.proofs.lemmas.Bool.{and_right}
use Rattle.text.specs.Fields.{is_letter}
use Rattle.text.specs.Judged.{prefixed}

-- a line of one byte or none has no prefix
pub short_plain : (line : List ℕ) → length line < 2 → prefixed line ≡ false
short_plain [] h = refl
short_plain (b ∷ []) h = and_right (is_letter b) false refl
short_plain (b ∷ c ∷ cs) h = absurd (omega arith)
