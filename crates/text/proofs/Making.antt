-- How things in a row are made one by one.
use Rattle.std.proofs.Common.{◌≡◌, ℕ, ◌+◌, ◌<◌, ◌≤◌, List, [], ◌∷◌, ◌++◌, length, get_or, drop, Some, None, Option, sym, ap, ◌∙◌, append_assoc, append-nil}
use Rattle.std.proofs.lemmas.List.{drop_more, drop_all}
use Rattle.rules.specs.Field.{Field}
use Rattle.field.specs.declared.direction.Direction.{Direction}
use Rattle.text.specs.Gathered.{on_some, gathered}
use Rattle.text.specs.Routes.{moved, squares_of}

-- one more, of which f makes something or nothing
pub gather_more : {A B : Type 0} (f : A → Option B) (before next : List B) (y : B) (xs : List A) (i : ℕ) (d : A) → i < length xs → f (get_or xs i d) ≡ Some y
    → next ≡ before ++ y ∷ [] → gathered f next (drop (i + 1) xs) ≡ gathered f before (drop i xs)
unfolding gathered on_some
gather_more f before next y xs i d h is more =
    ap (λ l. gathered f l (drop (i + 1) xs)) more
    ∙ sym (ap (gathered f before) (drop_more xs i d h) ∙ ap (λ o. on_some o (λ v. gathered f (before ++ v ∷ []) (drop (i + 1) xs))) is)

pub gather_none : {A B : Type 0} (f : A → Option B) (before : List B) (xs : List A) (i : ℕ) (d : A) → i < length xs → f (get_or xs i d) ≡ None
    → gathered f before (drop i xs) ≡ None
unfolding gathered on_some
gather_none f before xs i d h is =
    ap (gathered f before) (drop_more xs i d h) ∙ ap (λ o. on_some o (λ v. gathered f (before ++ v ∷ []) (drop (i + 1) xs))) is

pub gather_over : {A B : Type 0} (f : A → Option B) (before : List B) (xs : List A) (i : ℕ) → length xs ≤ i → gathered f before (drop i xs) ≡ Some before
unfolding gathered
gather_over f before xs i h = ap (gathered f before) (drop_all i xs h)

-- a step more
pub square_more : (f : Field) (c : ℕ) (before next : List ℕ) (ways : List Direction) (i : ℕ) (other : Direction) (to : ℕ) → i < length ways
    → to ≡ moved f c (get_or ways i other) → next ≡ before ++ to ∷ []
    → next ++ squares_of f to (drop (i + 1) ways) ≡ before ++ squares_of f c (drop i ways)
unfolding squares_of
square_more f c before next ways i other to h step more =
    ap (λ l. l ++ squares_of f to (drop (i + 1) ways)) more ∙ append_assoc before (to ∷ []) (squares_of f to (drop (i + 1) ways))
    ∙ ap (λ q. before ++ q ∷ squares_of f q (drop (i + 1) ways)) step
    ∙ sym (ap (λ l. before ++ squares_of f c l) (drop_more ways i other h))

pub squares_over : (f : Field) (c : ℕ) (before : List ℕ) (ways : List Direction) (i : ℕ) → length ways ≤ i → before ++ squares_of f c (drop i ways) ≡ before
unfolding squares_of
squares_over f c before ways i h = ap (λ l. before ++ squares_of f c l) (drop_all i ways h) ∙ append-nil before
