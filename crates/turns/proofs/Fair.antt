-- The one that has waited longest goes first, so whoever could go in each tick gets its turn. There are n agents; `w t i` is how long agent i
-- has waited at the choice of tick t, and `c t` is the one chosen.
use Rattle.std.proofs.Common.{◌≡◌, ℕ, zero, suc, ◌+◌, ◌<◌, ◌≤◌, Bool, true, false, cond, not, ◌&&◌, eqb, leb, ◌⊎◌, refl, subst, inl, inr, ⊎_elim, arith}
use Rattle.std.proofs.lemmas.Bool.{cases_Bool, cases_eq, cases_lt, and_parts, and_from, not-true, not_from_false, ne_eqb, eqb-false, le-leb, leb-true, lt-leb, and_left, eq-eqb, and_right, not_from_true}

-- how many numbers below n pass the test
number_of : (ℕ → Bool) → ℕ → ℕ
number_of p zero = 0
number_of p (suc n) = cond (p n) 1 0 + number_of p n

number_most : (p : ℕ → Bool) (n : ℕ) → number_of p n ≤ n
unfolding number_of
number_most p zero = omega arith
number_most p (suc n) =
    let rest = number_most p n in ⊎_elim (λ (e : p n ≡ true). rw e (omega arith)) (λ (e : p n ≡ false). rw e (omega arith)) (cases_Bool (p n))

-- fewer pass a test that implies the other and that one number fails
number_less : (p q : ℕ → Bool) → ((i : ℕ) → q i ≡ true → p i ≡ true) → (n : ℕ) → number_of q n ≤ number_of p n
unfolding number_of
number_less p q h zero = omega arith
number_less p q h (suc n) =
    let rest = number_less p q h n in
    ⊎_elim (λ (e : q n ≡ true). let e' = h n e in rw (e, e') (omega arith)) (λ (e : q n ≡ false). rw e (omega arith)) (cases_Bool (q n))

number_fewer : (p q : ℕ → Bool) → ((i : ℕ) → q i ≡ true → p i ≡ true) → (n k : ℕ) → k < n → p k ≡ true → q k ≡ false →
    number_of q n < number_of p n
unfolding number_of
number_fewer p q h zero k l a b = absurd (omega arith)
number_fewer p q h (suc n) k l a b =
    let rest : k < n → number_of q n < number_of p n = λ m. number_fewer p q h n k m a b in
    ⊎_elim
    (λ (m : k < n). let r = rest m in ⊎_elim (λ (e : q n ≡ true). let e' = h n e in rw (e, e') (omega arith))
    (λ (e : q n ≡ false). rw e (omega arith)) (cases_Bool (q n)))
    (λ (m : n ≤ k).
    let e : k ≡ n = omega arith in
    let a' = subst (λ x. p x ≡ true) e a in
    let b' = subst (λ x. q x ≡ false) e b in
    let r = number_less p q h n in rw (a', b') (omega arith))
    (cases_lt k n)

-- another that has waited as long as x
rival : (ℕ → ℕ) → ℕ → ℕ → Bool
rival w x i = not (eqb i x) && leb (w x) (w i)

rival_tells : (w : ℕ → ℕ) (x i : ℕ) → rival w x i ≡ true → (i ≡ x → ⊥) × (w x ≤ w i)
unfolding rival
rival_tells w x i e = let (a, b) = and_parts _ _ e in (eqb-false i x (not-true _ a), leb-true _ _ b)

rival_from : (w : ℕ → ℕ) (x i : ℕ) → (i ≡ x → ⊥) → w x ≤ w i → rival w x i ≡ true
unfolding rival
rival_from w x i ne l = and_from _ _ (not_from_false _ (ne_eqb i x ne)) (le-leb _ _ l)

rival_not : (w : ℕ → ℕ) (x i : ℕ) → w i < w x → rival w x i ≡ false
unfolding rival
rival_not w x i l = and_right _ _ (lt-leb _ _ l)

-- as long as J holds, x could go, so that one that has waited as long is chosen; and J goes on, with x waiting one tick more, unless x is
-- chosen or it stops. Then in one of the next n ticks x is chosen or it stops
module _ (n : ℕ) (w : ℕ → ℕ → ℕ) (c : ℕ → ℕ) (x : ℕ) (l : x < n) (J Stop : ℕ → Type 0)
    (grow : (t i : ℕ) → i < n → w (suc t) i ≤ suc (w t i)) (again : (t : ℕ) → c t < n → w (suc t) (c t) ≤ 1)
    (longest : (t : ℕ) → J t → (c t < n) × (w t x ≤ w t (c t))) (waited : (t : ℕ) → J t → 0 < w t x)
    (on : (t : ℕ) → J t → (c t ≡ x) ⊎ (Stop t ⊎ (J (suc t) × (w (suc t) x ≡ suc (w t x))))) where
  -- the rivals among the n agents
  rivals : ℕ → ℕ
  rivals t = number_of (rival' t) n
    where
      rival' : ℕ → ℕ → Bool
      rival' t i = leb (suc i) n && rival (w t) x i

  fewer : (t : ℕ) → J t → (c t ≡ x → ⊥) → w (suc t) x ≡ suc (w t x) → rivals (suc t) < rivals t
  unfolding rivals
  fewer t j ne e =
      let (a, b) = longest t j in
      let z = waited t j in
      let o = again t a in
      number_fewer (λ i. leb (suc i) n && rival (w t) x i) (λ i. leb (suc i) n && rival (w (suc t)) x i)
      (λ i h. let (p, q) = and_parts _ _ h in let (u, v) = rival_tells (w (suc t)) x i q in let g = grow t i (leb-true _ _ p) in
      and_from _ _ p (rival_from (w t) x i u (omega arith)))
      n (c t) a (and_from _ _ (le-leb _ _ a) (rival_from (w t) x (c t) ne b))
      (and_right _ _ (rival_not (w (suc t)) x (c t) (omega arith)))

  some_time : (m t : ℕ) → rivals t < m → J t → (k : ℕ) × (k < m) × J (t + k) × ((c (t + k) ≡ x) ⊎ Stop (t + k))
  some_time zero t r j = absurd (omega arith)
  some_time (suc m) t r j =
      let here : (c t ≡ x) ⊎ Stop t → (k : ℕ) × (k < suc m) × J (t + k) × ((c (t + k) ≡ x) ⊎ Stop (t + k)) = λ h.
      let e : t ≡ t + 0 = omega arith in (0, omega arith, subst J e j, subst (λ u. (c u ≡ x) ⊎ Stop u) e h) in
      let later : rivals (suc t) < m → J (suc t) → (k : ℕ) × (k < suc m) × J (t + k) × ((c (t + k) ≡ x) ⊎ Stop (t + k)) = λ q j'.
      let (k, a, b, h) = some_time m (suc t) q j' in
      let e : suc t + k ≡ t + suc k = omega arith in
      (suc k, omega arith, subst J e b, subst (λ u. (c u ≡ x) ⊎ Stop u) e h) in
      ⊎_elim (λ q. here (inl q))
      (λ (ne : c t ≡ x → ⊥). ⊎_elim (λ q. here (inl q))
      (λ (o : Stop t ⊎ (J (suc t) × (w (suc t) x ≡ suc (w t x)))). ⊎_elim (λ q. here (inr q))
      (λ (q : J (suc t) × (w (suc t) x ≡ suc (w t x))). later (let h = fewer t j ne q.1 in omega arith) q.0) o) (on t j))
      (cases_eq (c t) x)

  pub turn_comes : (t : ℕ) → J t → (k : ℕ) × (k < n) × J (t + k) × ((c (t + k) ≡ x) ⊎ Stop (t + k))
  unfolding rivals rival
  turn_comes t j = some_time n t
      (let h = number_most (λ _. true) n in
      let few = number_fewer (λ _. true) (λ i. leb (suc i) n && rival (w t) x i) (λ _ _. refl) n x l refl
      (and_right _ _ (and_left _ _ (not_from_true _ (eq-eqb x x refl)))) in
      omega arith) j
