-- What the small tests on numbers and lists tell, each as facts and back.
use Rattle.std.proofs.Common.{◌≡◌, ℕ, zero, suc, ◌<◌, Bool, true, false, not, ◌||◌, eqb, ltb, ◌⊎◌, List, [], ◌∷◌, ◌++◌, Decides, sym, refl, subst, inl, inr, ⊎_elim, arith}
use Rattle.std.proofs.lemmas.Bool.{cases_eq, cases_Bool, eqb-true, or_cases, or_left, or_right, and_parts, and_cases, both_ways, not_from_false}
use Rattle.std.proofs.lemmas.Bool.Decides.{nat_tests, Decides-below_and}
use Rattle.agents.specs.Numbers.{among, meets, all_below, all_to}
use Rattle.agents.specs.Going.{clear}

-- some number below n passes the test, or none does
pub some_below : (n : ℕ) (p : ℕ → Bool) → ((j : ℕ) × (j < n) × (p j ≡ true)) ⊎ ((j : ℕ) → j < n → p j ≡ false)
some_below zero p = inr (λ j l. absurd (omega arith))
some_below (suc n) p = ⊎_elim
    (λ e. inl (n, omega arith, e))
    (λ e. ⊎_elim
    (λ (t : (j : ℕ) × (j < n) × (p j ≡ true)). inl (t.0, omega arith, t.2))
    (λ (f : (j : ℕ) → j < n → p j ≡ false). inr
    (λ j l. ⊎_elim (λ q. subst (λ x. p x ≡ false) (sym q) e) (λ ne. f j (omega arith)) (cases_eq j n)))
    (some_below n p))
    (cases_Bool (p n))

-- a test of every number below n, by what the test tells of one
pub all_below_is : (n : ℕ) (p : ℕ → Bool) (P : ℕ → Type 0) → ((i : ℕ) → Decides (p i) (P i)) →
    Decides (all_below n p) ((i : ℕ) → i < n → P i)
unfolding all_below
all_below_is n p P each = Decides-below_and p P (λ m. all_below m p) each refl (λ _. refl) n

-- a test that one thing follows from another
pub follows_is : {P Q : Type 0} (a b : Bool) → Decides a P → Decides b Q → Decides (not a || b) (P → Q)
follows_is a b p q = (
  λ e h. q.0 (let f = p.1 h in grind arith),
  λ f. ⊎_elim (λ e. or_right _ _ (q.1 (f (p.0 e))))
      (λ e. or_left _ _ (not_from_false a e)) (cases_Bool a),
)

pub among_here : (x : ℕ) (xs : List ℕ) → among x (x ∷ xs) ≡ true
unfolding among
among_here x xs = grind (arith, nat_tests)

pub among_append : (x : ℕ) (xs ys : List ℕ) → among x (xs ++ ys) ≡ (among x xs || among x ys)
unfolding among
among_append x [] ys = refl
among_append x (z ∷ xs) ys = grind (arith, nat_tests, among_append x xs ys)

-- what is among a list with one more in the middle
pub among_middle : (x i : ℕ) (before after : List ℕ) → among x (before ++ (i ∷ after)) ≡ (eqb x i || among x (before ++ after))
unfolding among
among_middle x i before after = grind (arith, nat_tests, among_append x before (i ∷ after), among_append x before after)

pub among_all_to : (n i : ℕ) → among i (all_to n) ≡ ltb i n
unfolding among all_to
among_all_to zero i = grind (arith, nat_tests)
among_all_to (suc n) i = grind (arith, nat_tests, among_all_to n i)

pub meets_from : (xs ys : List ℕ) (c : ℕ) → among c xs ≡ true → among c ys ≡ true → meets xs ys ≡ true
unfolding among meets
meets_from [] ys c p q = p
meets_from (x ∷ xs) ys c p q = ⊎_elim
    (λ e. or_left _ _ (subst (λ z. among z ys ≡ true) (eqb-true c x e) q))
    (λ e. or_right _ _ (meets_from xs ys c e q))
    (or_cases _ _ p)

pub meets_tells : (xs ys : List ℕ) → meets xs ys ≡ true → (c : ℕ) × (among c xs ≡ true) × (among c ys ≡ true)
unfolding meets among
meets_tells [] ys e = absurd (both_ways false refl e)
meets_tells (x ∷ xs) ys e =
    let rest : meets xs ys ≡ true → (c : ℕ) × (among c xs ≡ true) × (among c ys ≡ true) = meets_tells xs ys in
    ⊎_elim (λ p. (x, among_here x xs, p)) (λ p. ((rest p).0, or_right _ _ (rest p).1, (rest p).2)) (or_cases _ _ e)

pub clear_tells : (w : ℕ → ℕ → Bool) (i : ℕ) (is : List ℕ) → clear w i is ≡ true → (j : ℕ) → (i ≡ j → ⊥) → among j is ≡ true → w i j ≡ false
unfolding clear among
clear_tells w i [] c j ne m = absurd (both_ways false refl m)
clear_tells w i (x ∷ is) c j ne m = ⊎_elim
    (λ e. let q : j ≡ x = eqb-true j x e in grind (arith, nat_tests))
    (λ e. clear_tells w i is (and_parts _ _ c).1 j ne e)
    (or_cases _ _ m)

pub clear_from : (w : ℕ → ℕ → Bool) (i : ℕ) (is : List ℕ) → ((j : ℕ) → (i ≡ j → ⊥) → among j is ≡ true → w i j ≡ false) →
    clear w i is ≡ true
unfolding clear among
clear_from w i [] f = refl
clear_from w i (x ∷ is) f =
    let rest = clear_from w i is (λ j ne m. f j ne (or_right _ _ m)) in
    let here : (i ≡ x → ⊥) → w i x ≡ false = λ ne. f x ne (among_here x is) in
    grind (arith, nat_tests)

-- who is not clear of a list is blocked by another of it
pub clear_not : (w : ℕ → ℕ → Bool) (i : ℕ) (is : List ℕ) → clear w i is ≡ false →
    (j : ℕ) × (i ≡ j → ⊥) × (among j is ≡ true) × (w i j ≡ true)
unfolding clear among
clear_not w i [] c = absurd (both_ways true c refl)
clear_not w i (x ∷ is) c =
    let rest : clear w i is ≡ false → (j : ℕ) × (i ≡ j → ⊥) × (among j is ≡ true) × (w i j ≡ true) = clear_not w i is in
    ⊎_elim (λ (p : (eqb i x || not (w i x)) ≡ false). (x, grind (arith, nat_tests), among_here x is, grind (arith, nat_tests)))
    (λ p. ((rest p).0, (rest p).1, or_right _ _ (rest p).2, (rest p).3)) (and_cases _ _ c)
