-- The rules' small tests are what the library's words for slices say.
use Rattle.std.proofs.Common.{◌≡◌, ℕ, zero, suc, ◌+◌, Bool, true, false, ◌&&◌, ◌||◌, get_or, take, ◌≤◌, List, [], ◌∷◌, length, max, refl, ap, sym, ◌∙◌, arith}
use Rattle.std.proofs.lemmas.List.Folds.{list_any_more}
use Rattle.std.specs.List.{list_all, list_any, range_with_len, reduce, fold}
use Rattle.std.specs.Prelude.{Option, Some, None}
use Rattle.std.specs.Option.{unwrap_or, option_map}
use Rattle.rules.specs.Tests.{every, every_to, any_to}
use Rattle.rules.proofs.Tests.{every_to_none, every_to_like}

pub every_is : (p : ℕ → Bool) (xs : List ℕ) → list_all p xs ≡ every p xs
unfolding every
every_is p [] = refl
every_is p (x ∷ xs) = ap (λ (b : Bool). p x && b) (every_is p xs)

-- a test of the numbers below a bound, from the first on
pub any_to_first : (q : ℕ → Bool) (n : ℕ) → any_to q (suc n) ≡ (q 0 || any_to (λ i. q (suc i)) n)
unfolding any_to
any_to_first q zero = refl
any_to_first q (suc n) = let e = any_to_first q n in grind arith

every_to_first : (q : ℕ → Bool) (n : ℕ) → every_to q (suc n) ≡ (q 0 && every_to (λ i. q (suc i)) n)
unfolding every_to
every_to_first q zero = refl
every_to_first q (suc n) = let e = every_to_first q n in grind arith

-- some element passes exactly if one does at some index
pub any_to_is : (p : ℕ → Bool) (xs : List ℕ) → list_any p xs ≡ any_to (λ i. p (get_or xs i 0)) (length xs)
unfolding any_to
any_to_is p [] = refl
any_to_is p (x ∷ xs) = ap (λ (b : Bool). p x || b) (any_to_is p xs) ∙ sym (any_to_first (λ i. p (get_or (x ∷ xs) i 0)) (length xs))

or_swap : (a b : Bool) → (a || b) ≡ (b || a)
or_swap true true = refl
or_swap true false = refl
or_swap false true = refl
or_swap false false = refl

-- the same of the first n
pub any_to_before : (p : ℕ → Bool) (xs : List ℕ) (n : ℕ) → n ≤ length xs → list_any p (take n xs) ≡ any_to (λ i. p (get_or xs i 0)) n
unfolding any_to
any_to_before p xs zero l = refl
any_to_before p xs (suc n) l =
    let more : list_any p (take (n + 1) xs) ≡ (list_any p (take n xs) || p (get_or xs n 0)) = list_any_more p xs n 0 (omega (arith, l)) in
    let rest = any_to_before p xs n (omega (arith, l)) in
    let next : suc n ≡ n + 1 = omega arith in
    ap (λ (k : ℕ). list_any p (take k xs)) next ∙ more ∙ ap (λ (b : Bool). b || p (get_or xs n 0)) rest ∙ or_swap (any_to (λ i. p (get_or xs i 0)) n) (p (get_or xs n 0))

-- each number of a range passes
pub every_to_is : (p : ℕ → Bool) (a n : ℕ) → list_all p (range_with_len a n) ≡ every_to (λ i. p (a + i)) n
every_to_is p a zero = sym (every_to_none (λ i. p (a + i)))
every_to_is p a (suc n) =
    let shift = every_to_like (λ i. p (a + 1 + i)) (λ i. p (a + suc i)) n (λ k _. ap p (omega arith)) in
    let first : p (a + 0) ≡ p a = ap p (omega arith) in
    let rest = every_to_is p (a + 1) n in
    let all = every_to_first (λ i. p (a + i)) n in
    grind arith

pub every_to_range : (p : ℕ → Bool) (n : ℕ) → list_all p (range_with_len 0 n) ≡ every_to p n
every_to_range p n = every_to_is p 0 n ∙ every_to_like (λ i. p (0 + i)) p n (λ k _. ap p (omega arith))

-- the largest passes exactly if each does, for a test that the larger of two passes exactly if both do
pub fold_largest : (p : ℕ → Bool) → ((a b : ℕ) → p (max a b) ≡ (p a && p b)) → (a : ℕ) (xs : List ℕ) → p (fold max a xs) ≡ (p a && every p xs)
unfolding every
fold_largest p both a [] = grind arith
fold_largest p both a (x ∷ xs) = fold_largest p both (max a x) xs ∙ (let e = both a x in grind arith)

largest_is : (p : ℕ → Bool) → ((a b : ℕ) → p (max a b) ≡ (p a && p b)) → p 0 ≡ true → (xs : List ℕ) → p (unwrap_or (reduce max xs) 0) ≡ every p xs
unfolding every
largest_is p both least [] = least
largest_is p both least (x ∷ xs) = fold_largest p both x xs

same_option : (r : Option ℕ) → option_map (λ (x : ℕ). x) r ≡ r
same_option None = refl
same_option (Some x) = refl

-- the same of what `max` answers
pub most_is : (p : ℕ → Bool) → ((a b : ℕ) → p (max a b) ≡ (p a && p b)) → p 0 ≡ true → (r : Option ℕ) (xs : List ℕ)
    → option_map (λ (x : ℕ). x) r ≡ reduce max xs → p (unwrap_or r 0) ≡ every p xs
most_is p both least r xs e = ap (λ (o : Option ℕ). p (unwrap_or o 0)) (sym (same_option r) ∙ e) ∙ largest_is p both least xs
