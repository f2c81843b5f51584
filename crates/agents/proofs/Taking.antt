-- Taking out, in any order or the first each time, finds exactly those who can go.
use Rattle.std.proofs.Common.{◌≡◌, ℕ, zero, suc, ◌<◌, ◌≤◌, Bool, true, false, not, ◌||◌, eqb, ltb, ◌⊎◌, List, [], ◌∷◌, ◌++◌, length, Decides, sym, refl, ap, ◌∙◌, subst, inl, inr, ⊎_elim, arith, length-append}
use Rattle.std.proofs.lemmas.Bool.{cases_Bool, cases_eq, both_ways, and_parts, and_from, and_cases, not-true, not-false, lt-ltb, ltb-true, not_from_false, false_from_ne_true}
use Rattle.std.proofs.lemmas.Bool.Decides.{nat_tests}
use Rattle.std.specs.Cmp.{both_ways as same_test}
use Rattle.agents.specs.Numbers.{among, all_to}
use Rattle.agents.specs.Going.{CanGo, goes, Waits, closed, behind, clear, at_once, take_out, left_over, can_go, OthersGo, NoneFree}
use Rattle.agents.proofs.Tests.{among_middle, among_all_to, clear_tells, clear_not}
use Rattle.agents.proofs.Going.{below, some_blocker}

module _ (n : ℕ) (w : ℕ → ℕ → Bool) (k : ℕ → Bool) where
  -- one of a set that is not closed and blocked by nobody else of it can go
  pub set_next : (In : ℕ → Bool) → OthersGo n w k In → (i : ℕ) → i < n → k i ≡ false →
      ((j : ℕ) → j < n → (i ≡ j → ⊥) → In j ≡ true → w i j ≡ false) → CanGo n w k i
  set_next In o i l c f = goes i l c (λ j m ne e. o j m (false_from_ne_true (In j) (λ h. both_ways (w i j) (f j m ne h) e)))

  -- so the set may lose it: the step of a loop that takes out in any order
  pub set_without : (In In' : ℕ → Bool) → OthersGo n w k In → (i : ℕ) → CanGo n w k i →
      ((j : ℕ) → j < n → (j ≡ i → ⊥) → In j ≡ true → In' j ≡ true) → OthersGo n w k In'
  set_without In In' o i g f j l e =
      ⊎_elim (λ q. subst (CanGo n w k) (sym q) g) (λ ne. o j l (false_from_ne_true (In j) (λ h. both_ways (In' j) e (f j l ne h)))) (cases_eq j i)

  -- where nobody of a set can go at once, nobody of it can go
  pub set_stuck : (In : ℕ → Bool) → NoneFree n w k In → {i : ℕ} → CanGo n w k i → In i ≡ false
  set_stuck In s (goes i l c b) =
      let rest : (j : ℕ) → j < n → (i ≡ j → ⊥) → w i j ≡ true → In j ≡ false = λ j m ne e. set_stuck In s (b j m ne e) in
      false_from_ne_true (In i) (λ h. ⊎_elim
      (λ q. both_ways (k i) c q)
      (λ (t : (j : ℕ) × (j < n) × (i ≡ j → ⊥) × (In j ≡ true) × (w i j ≡ true)). both_ways (In t.0) (rest t.0 t.1 t.2 t.4)
      t.3)
      (s i l h))

-- nobody of the list can go at once, and it stays as it is
abbrev pub Stays : (ℕ → ℕ → Bool) → (ℕ → Bool) → (all left : List ℕ) → Type 0
Stays w k all left = (take_out w k all left ≡ left) × ((i : ℕ) → among i left ≡ true → at_once w k all i ≡ false)

-- the list loses one that can go at once
abbrev pub Loses : (ℕ → ℕ → Bool) → (ℕ → Bool) → (all left : List ℕ) → Type 0
Loses w k all left =
    (i : ℕ) × (before : List ℕ) × (after : List ℕ) × (left ≡ before ++ (i ∷ after)) × (take_out w k all left ≡ before ++ after) ×
    (at_once w k all i ≡ true)

pub take_out_is : (w : ℕ → ℕ → Bool) (k : ℕ → Bool) (all left : List ℕ) → Stays w k all left ⊎ Loses w k all left
unfolding take_out among
take_out_is w k all [] = inl (refl, λ i e. absurd (both_ways false refl e))
take_out_is w k all (x ∷ xs) = ⊎_elim
    (λ e. inr (x, [], xs, refl, cc, e))
    (λ e. ⊎_elim
    (λ (t : Stays w k all xs).
    inl (
      cc (e, t.0),
      λ i m. ⊎_elim (λ (q : i ≡ x). subst (λ y. at_once w k all y ≡ false) (sym q) e) (λ ne. t.1 i (grind (arith, nat_tests)))
          (cases_eq i x),
    ))
    (λ (t : Loses w k all xs).
    inr (t.0, x ∷ t.1, t.2, ap (λ l. x ∷ l) t.3, cc (e, t.4), t.5))
    (take_out_is w k all xs))
    (cases_Bool (at_once w k all x))

-- a list that loses nobody stays as it is
pub stays : (m : ℕ) (w : ℕ → ℕ → Bool) (k : ℕ → Bool) (is : List ℕ) → take_out w k is is ≡ is → left_over m w k is ≡ is
unfolding left_over
stays zero w k is e = refl
stays (suc m) w k is e = ap (left_over m w k) e ∙ stays m w k is e

length_all_to : (n : ℕ) → length (all_to n) ≡ n
unfolding all_to
length_all_to zero = refl
length_all_to (suc n) = ap suc (length_all_to n)

module _ (n : ℕ) (w : ℕ → ℕ → Bool) (k : ℕ → Bool) where
  -- a list in which nobody can go at once, while all others can go
  abbrev pub Rest : List ℕ → Type 0
  Rest is = ((i : ℕ) → among i is ≡ true → i < n) × OthersGo n w k (λ i. among i is) × NoneFree n w k (λ i. among i is)

  left_over_rest : (m : ℕ) (is : List ℕ) → length is ≤ m → ((i : ℕ) → among i is ≡ true → i < n) → OthersGo n w k (λ i. among i is) →
      Rest (left_over m w k is)
  unfolding left_over among
  left_over_rest zero [] l b o = (b, o, λ i _ e. absurd (both_ways false refl e))
  left_over_rest zero (x ∷ is) l b o = absurd (omega arith)
  left_over_rest (suc m) is l b o =
      let next : (js : List ℕ) → length js ≤ m → ((i : ℕ) → among i js ≡ true → i < n) → OthersGo n w k (λ i. among i js) →
      Rest (left_over m w k js) = left_over_rest m in
      ⊎_elim
      (λ (t : Stays w k is is).
      subst Rest (sym (ap (left_over m w k) t.0 ∙ stays m w k is t.0)) (
        b,
        o,
        λ i l h. ⊎_elim
            (λ e. inl (not-false (k i) e))
            (λ e. let (j, ne, a, v) = clear_not w i is e in inr (j, b j a, ne, a, v))
            (and_cases _ _ (t.1 i h)),
      ))
      (λ (t : Loses w k is is).
      let (i, before, after, e, e', a) = t in
      let js = before ++ after in
      let mid : (j : ℕ) → among j is ≡ (eqb j i || among j js) = λ j. ap (among j) e ∙ among_middle j i before after in
      let long : length is ≡ suc (length js) = ap length e ∙ (simp length-append (omega arith)) in
      let go : CanGo n w k i = set_next n w k (λ j. among j is) o i (b i (mid i ∙ grind (arith, nat_tests)))
      (not-true (k i) (and_parts (not (k i)) (clear w i is) a).0)
      (λ j m ne h. clear_tells w i is (and_parts (not (k i)) (clear w i is) a).1 j ne h) in
      subst (λ x. Rest (left_over m w k x)) (sym e')
      (next js (omega arith) (λ j h. b j (mid j ∙ grind (arith, nat_tests)))
      (set_without n w k (λ j. among j is) (λ j. among j js) o i go (λ j m ne h. let f = mid j in grind (arith, nat_tests)))))
      (take_out_is w k is is)

  -- what is left over of all
  pub left_over_all : Rest (left_over n w k (all_to n))
  left_over_all = left_over_rest n (all_to n) (omega (arith, length_all_to n)) (λ i e. ltb-true i n (sym (among_all_to n i) ∙ e))
      (λ i l e. absurd (both_ways (ltb i n) (sym (among_all_to n i) ∙ e) (lt-ltb i n l)))

  -- trying tells exactly who can go
  pub can_go_tells : (i : ℕ) → can_go n w k i ≡ true → CanGo n w k i
  unfolding can_go
  can_go_tells i e = let (a, b) = and_parts (ltb i n) _ e in left_over_all.1 i (ltb-true i n a) (not-true _ b)

  pub can_go_from : {i : ℕ} → CanGo n w k i → can_go n w k i ≡ true
  unfolding can_go
  can_go_from {i} g = and_from (ltb i n) _ (lt-ltb i n (below g))
      (not_from_false _ (set_stuck n w k (λ j. among j (left_over n w k (all_to n))) left_over_all.2 g))

  pub can_go_is : (i : ℕ) → Decides (can_go n w k i) (CanGo n w k i)
  can_go_is i = (can_go_tells i, can_go_from)

  pub can_go_not : (i : ℕ) → can_go n w k i ≡ false → CanGo n w k i → ⊥
  can_go_not i e g = both_ways (can_go n w k i) e (can_go_from g)

  -- at the end of a loop that takes out in any order, who is still in the set is who cannot go
  pub set_is : (In : ℕ → Bool) → OthersGo n w k In → NoneFree n w k In → (i : ℕ) → i < n → can_go n w k i ≡ not (In i)
  set_is In o s i l = same_test _ _ (λ e. not_from_false (In i) (set_stuck n w k In s (can_go_tells i e)))
      (λ e. can_go_from (o i l (not-true (In i) e)))

-- whoever could go under one closing can go under another, or waits for one that is closed there
pub goes_or_waits : {n : ℕ} {w : ℕ → ℕ → Bool} {k : ℕ → Bool} (k' : ℕ → Bool) {i : ℕ} → CanGo n w k i → CanGo n w k' i ⊎ Waits n w k' i
goes_or_waits {n} {w} {k} k' (goes i l c b) =
    let rest : (j : ℕ) → j < n → (i ≡ j → ⊥) → w i j ≡ true → CanGo n w k' j ⊎ Waits n w k' j = λ j m ne e. goes_or_waits k' (b j m ne e) in
    ⊎_elim
    (λ e. inr (closed i l e))
    (λ e. ⊎_elim
    (λ (t : (j : ℕ) × (j < n) × (i ≡ j → ⊥) × (w i j ≡ true) × (not (can_go n w k' j) ≡ true)).
    let (j, m, ne, v, q) = t in
    inr (⊎_elim (λ g. absurd (can_go_not n w k' j (not-true _ q) g)) (λ r. behind i j l m ne v r) (rest j m ne v)))
    (λ (f : (j : ℕ) → j < n → (i ≡ j → ⊥) → w i j ≡ true → not (can_go n w k' j) ≡ false).
    inl (goes i l e (λ j m ne v. can_go_tells n w k' j (not-false _ (f j m ne v)))))
    (some_blocker n w (λ j. not (can_go n w k' j)) i))
    (cases_Bool (k' i))
