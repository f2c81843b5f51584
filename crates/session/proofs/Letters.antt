-- The letters of a route, one by one.
use Rattle.std.proofs.Common.{◌≡◌, ℕ, ◌+◌, ◌<◌, ◌≤◌, List, [], ◌∷◌, ◌++◌, length, get_or, drop, sym, ap, ◌∙◌, append_assoc, append-nil}
use Rattle.std.proofs.lemmas.List.{drop_more, drop_all}
use Rattle.rules.specs.Field.{Field}
use Rattle.field.specs.Directions.{letter_of, direction_to}
use Rattle.session.specs.Ways.{letters_of}

-- one letter more
pub letter_more : (f : Field) (c : ℕ) (before next : List ℕ) (xs : List ℕ) (i letter : ℕ) → i < length xs
    → letter ≡ letter_of (direction_to f c (get_or xs i 0)) → next ≡ before ++ letter ∷ []
    → next ++ letters_of f (get_or xs i 0) (drop (i + 1) xs) ≡ before ++ letters_of f c (drop i xs)
unfolding letters_of
letter_more f c before next xs i letter h is more =
    ap (λ l. l ++ letters_of f (get_or xs i 0) (drop (i + 1) xs)) more
    ∙ append_assoc before (letter ∷ []) (letters_of f (get_or xs i 0) (drop (i + 1) xs))
    ∙ ap (λ q. before ++ q ∷ letters_of f (get_or xs i 0) (drop (i + 1) xs)) is
    ∙ sym (ap (λ l. before ++ letters_of f c l) (drop_more xs i 0 h))

pub letters_over : (f : Field) (c : ℕ) (before xs : List ℕ) (i : ℕ) → length xs ≤ i → before ++ letters_of f c (drop i xs) ≡ before
unfolding letters_of
letters_over f c before xs i h = ap (λ l. before ++ letters_of f c l) (drop_all i xs h) ∙ append-nil before
