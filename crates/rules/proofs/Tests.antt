-- What the small tests tell, both ways.
use Rattle.std.proofs.Common.{◌≡◌, ℕ, zero, suc, ◌+◌, ◌<◌, ◌≤◌, max, Bool, true, false, ◌&&◌, ◌||◌, eqb, ltb, leb, List, [], ◌∷◌, ◌++◌, length, get_or, take, sym, refl, ap, ◌∙◌, ⊎_elim, add-one, arith}
use Rattle.std.proofs.lemmas.Bool.{and_parts, and_from, or_cases, or_from, or_right, cases_Bool, eqb-true, both_ways}
use Rattle.std.proofs.lemmas.List.{take_more, take_all}
use Rattle.std.proofs.lemmas.Bool.Decides.{nat_tests, Decides-below_and, Decides-below_or}
use Rattle.rules.specs.Tests.{every_to, any_to, every, among, is_empty}

-- of two tests of which the first holds the second decides
pub and_true : (x y : Bool) → x ≡ true → (x && y) ≡ y
and_true x y h = rw h

pub every_to_tells : (p : ℕ → Bool) (n : ℕ) → every_to p n ≡ true → (k : ℕ) → k < n → p k ≡ true
unfolding every_to
every_to_tells p n h = (Decides-below_and p (λ k. p k ≡ true) (every_to p) (λ k. (λ e. e, λ e. e)) refl (λ _. refl) n).0 h

pub every_to_from : (p : ℕ → Bool) (n : ℕ) → ((k : ℕ) → k < n → p k ≡ true) → every_to p n ≡ true
unfolding every_to
every_to_from p n h = (Decides-below_and p (λ k. p k ≡ true) (every_to p) (λ k. (λ e. e, λ e. e)) refl (λ _. refl) n).1 h

pub any_to_tells : (p : ℕ → Bool) (n : ℕ) → any_to p n ≡ true → (k : ℕ) × (k < n) × (p k ≡ true)
unfolding any_to
any_to_tells p n h = (Decides-below_or p (λ k. p k ≡ true) (any_to p) (λ k. (λ e. e, λ e. e)) refl (λ _. refl) n).0 h

pub any_to_from : (p : ℕ → Bool) (n k : ℕ) → k < n → p k ≡ true → any_to p n ≡ true
unfolding any_to
any_to_from p n k l h = (Decides-below_or p (λ k. p k ≡ true) (any_to p) (λ k. (λ e. e, λ e. e)) refl (λ _. refl) n).1 (k, l, h)

-- if none passes, each fails
pub any_to_none : (p : ℕ → Bool) (n : ℕ) → any_to p n ≡ false → (k : ℕ) → k < n → p k ≡ false
any_to_none p n h k l =
    ⊎_elim (λ e. absurd (both_ways (any_to p n) h (any_to_from p n k l e))) (λ e. e) (cases_Bool (p k))

pub any_to_nowhere : (p : ℕ → Bool) (n : ℕ) → ((k : ℕ) → k < n → p k ≡ false) → any_to p n ≡ false
any_to_nowhere p n h =
    ⊎_elim (λ e. let w = any_to_tells p n e in absurd (both_ways (p w.0) (h w.0 w.1) w.2)) (λ e. e)
    (cases_Bool (any_to p n))

-- one number more
pub every_to_more : (p : ℕ → Bool) (n : ℕ) → every_to p (suc n) ≡ (p n && every_to p n)
unfolding every_to
every_to_more p n = refl

pub any_to_more : (p : ℕ → Bool) (n : ℕ) → any_to p (suc n) ≡ (p n || any_to p n)
unfolding any_to
any_to_more p n = refl

-- the same test under another form
pub every_to_like : (p q : ℕ → Bool) (n : ℕ) → ((k : ℕ) → k < n → p k ≡ q k) → every_to p n ≡ every_to q n
unfolding every_to
every_to_like p q zero h = refl
every_to_like p q (suc n) h =
    let here : p n ≡ q n = h n (omega arith) in
    let rest : every_to p n ≡ every_to q n = every_to_like p q n (λ k l. h k (omega arith)) in rw (here, rest)

pub any_to_like : (p q : ℕ → Bool) (n : ℕ) → ((k : ℕ) → k < n → p k ≡ q k) → any_to p n ≡ any_to q n
unfolding any_to
any_to_like p q zero h = refl
any_to_like p q (suc n) h =
    let here : p n ≡ q n = h n (omega arith) in
    let rest : any_to p n ≡ any_to q n = any_to_like p q n (λ k l. h k (omega arith)) in rw (here, rest)

-- each element of a list, by its place
pub every_tells : (p : ℕ → Bool) (xs : List ℕ) → every p xs ≡ true → (k d : ℕ) → k < length xs → p (get_or xs k d) ≡ true
unfolding every
every_tells p [] h k d l = absurd (omega arith)
every_tells p (x ∷ xs) h zero d l = (and_parts (p x) (every p xs) h).0
every_tells p (x ∷ xs) h (suc k) d l = every_tells p xs (and_parts (p x) (every p xs) h).1 k d (omega arith)

pub every_from : (p : ℕ → Bool) (xs : List ℕ) (d : ℕ) → ((k : ℕ) → k < length xs → p (get_or xs k d) ≡ true) → every p xs ≡ true
unfolding every
every_from p [] d h = refl
every_from p (x ∷ xs) d h =
    and_from (p x) (every p xs) (h 0 (omega arith)) (every_from p xs d (λ k l. h (suc k) (omega arith)))

pub every_append : (p : ℕ → Bool) (xs ys : List ℕ) → every p (xs ++ ys) ≡ (every p xs && every p ys)
unfolding every
every_append p [] ys = refl
every_append p (x ∷ xs) ys = let ih = every_append p xs ys in grind (arith, nat_tests, ih)

-- the test of each element implies another one's
pub every_imp : (p q : ℕ → Bool) (xs : List ℕ) → ((x : ℕ) → p x ≡ true → q x ≡ true) → every p xs ≡ true → every q xs ≡ true
unfolding every
every_imp p q [] f h = refl
every_imp p q (x ∷ xs) f h =
    let both = and_parts (p x) (every p xs) h in and_from (q x) (every q xs) (f x both.0) (every_imp p q xs f both.1)

-- membership, by its place
pub among_tells : (x : ℕ) (ys : List ℕ) → among x ys ≡ true → (k : ℕ) × (k < length ys) × (get_or ys k 0 ≡ x)
unfolding among
among_tells x [] h = absurd (both_ways false refl h)
among_tells x (y ∷ ys) h =
    ⊎_elim (λ e. (0, omega arith, let q = eqb-true x y e in omega arith))
    (λ e. let w = among_tells x ys e in (suc w.0, omega (arith, w.1), w.2)) (or_cases (eqb x y) (among x ys) h)

pub among_from : (x : ℕ) (ys : List ℕ) (k : ℕ) → k < length ys → get_or ys k 0 ≡ x → among x ys ≡ true
unfolding among
among_from x [] k l e = absurd (omega arith)
among_from x (y ∷ ys) zero l e = grind (arith, nat_tests)
among_from x (y ∷ ys) (suc k) l e = or_right (eqb x y) (among x ys) (among_from x ys k (omega arith) e)

pub among_append : (x : ℕ) (xs ys : List ℕ) → among x (xs ++ ys) ≡ (among x xs || among x ys)
unfolding among
among_append x [] ys = refl
among_append x (y ∷ xs) ys = let ih = among_append x xs ys in grind (arith, nat_tests, ih)

-- emptiness, and by the length
pub empty_tells : (xs : List ℕ) → is_empty xs ≡ true → xs ≡ []
unfolding is_empty
empty_tells [] h = refl
empty_tells (x ∷ xs) h = absurd (both_ways false refl h)

pub empty_from : (xs : List ℕ) → length xs ≡ 0 → is_empty xs ≡ true
unfolding is_empty
empty_from [] h = refl
empty_from (x ∷ xs) h = absurd (omega arith)

pub empty_is : (xs : List ℕ) → is_empty xs ≡ eqb (length xs) 0
unfolding is_empty
empty_is [] = refl
empty_is (x ∷ xs) = grind (arith, nat_tests)

-- one element more of a front that is tested, and all of it
pub every_take_more : (p : ℕ → Bool) (xs : List ℕ) (k : ℕ) → k < length xs
    → every p (take (k + 1) xs) ≡ (every p (take k xs) && p (get_or xs k 0))
unfolding every
every_take_more p xs k l =
    ap (every p) (take_more xs k 0 l) ∙ every_append p (take k xs) (get_or xs k 0 ∷ []) ∙ grind (arith, nat_tests)

pub every_take_all : (p : ℕ → Bool) (xs : List ℕ) (k : ℕ) → length xs ≤ k → every p (take k xs) ≡ every p xs
every_take_all p xs k l = ap (every p) (take_all k xs l)

-- a test that the larger of two passes exactly if both do is passed by a running maximum exactly if each passes
pub max_more : (p : ℕ → Bool) → ((a b : ℕ) → p (max a b) ≡ (p a && p b)) → (xs : List ℕ) (most k : ℕ) → k < length xs
    → p most ≡ every p (take k xs) → p (max most (get_or xs k 0)) ≡ every p (take (k + 1) xs)
max_more p join xs most k l h = join most (get_or xs k 0) ∙ (rw h (sym (every_take_more p xs k l)))

pub leb_max : (n a b : ℕ) → leb (max a b) n ≡ (leb a n && leb b n)
leb_max n a b = grind (arith, nat_tests)

pub ltb_max : (n a b : ℕ) → ltb (max a b) n ≡ (ltb a n && ltb b n)
ltb_max n a b = grind (arith, nat_tests)

pub every_to_broken : (p : ℕ → Bool) (n k : ℕ) → k < n → p k ≡ false → every_to p n ≡ false
every_to_broken p n k l h =
    ⊎_elim (λ e. absurd (both_ways (p k) h (every_to_tells p n e k l))) (λ e. e) (cases_Bool (every_to p n))

-- a loop that counts up: none yet, and one more
pub every_to_none : (p : ℕ → Bool) → every_to p 0 ≡ true
unfolding every_to
every_to_none p = refl

pub any_to_none_yet : (p : ℕ → Bool) → any_to p 0 ≡ false
unfolding any_to
any_to_none_yet p = refl

pub every_to_next : (p : ℕ → Bool) (n : ℕ) → p n ≡ true → every_to p n ≡ true → every_to p (n + 1) ≡ true
every_to_next p n h r = rw (add-one, every_to_more p n) (and_from (p n) (every_to p n) h r)

pub any_to_next : (p : ℕ → Bool) (n : ℕ) → p n ≡ false → any_to p n ≡ false → any_to p (n + 1) ≡ false
any_to_next p n h r = rw (add-one, any_to_more p n) (or_from (p n) (any_to p n) h r)
