-- The bound on coming home: from one grant to the next at most so many ticks pass, and so many more until the last has arrived.
use Rattle.std.proofs.Common.{◌≡◌, ℕ, zero, suc, ◌+◌, ◌-◌, ◌*◌, ◌<◌, ◌≤◌, max, Bool, true, false, ltb, ◌⊎◌, refl, ap, ◌∙◌, subst, inl, inr, ⊎_elim, arith}
use Rattle.std.proofs.lemmas.Bool.{both_ways, cases_lt, ltb-true, ltb-false, false_from_ne_true}
use Rattle.agents.proofs.Tests.{some_below}
use Rattle.turns.specs.Bound.{Ticking, ComesWithin, AllDoneInTime}

-- whoever is on its way at any time is due within the next d ticks
pub due_soon : (n : ℕ) (moves due : ℕ → ℕ → Bool) (whose : ℕ → ℕ) (d : ℕ) →
    ((t i : ℕ) → i < n → moves (suc t) i ≡ true → (whose t ≡ i) ⊎ ((moves t i ≡ true) × (due t i ≡ false))) →
    ComesWithin n moves due whose d → (t i : ℕ) → i < n → moves t i ≡ true → (k : ℕ) × (k < d) × (due (t + k) i ≡ true)
due_soon n moves due whose d r c zero i l m = c zero i l m (inl refl)
due_soon n moves due whose d r c (suc u) i l m =
    let before : moves u i ≡ true → (k : ℕ) × (k < d) × (due (u + k) i ≡ true) = due_soon n moves due whose d r c u i l in
    ⊎_elim (λ (e : whose u ≡ i). c (suc u) i l m (inr (u, refl, e)))
    (λ (p : (moves u i ≡ true) × (due u i ≡ false)). later p.1 (before p.0))
    (r u i l m)
  where
    later : due u i ≡ false → (k : ℕ) × (k < d) × (due (u + k) i ≡ true) → (k : ℕ) × (k < d) × (due (suc u + k) i ≡ true)
    later o (zero, a, e) = absurd (both_ways _ o (subst (λ x. due x i ≡ true) (omega arith) e))
    later o (suc k, a, e) = (k, omega arith, subst (λ x. due x i ≡ true) (omega arith) e)

module _ (n : ℕ) (left : ℕ → ℕ) (moves due : ℕ → ℕ → Bool) (whose : ℕ → ℕ) (r : Ticking n left moves due whose) where
  -- while nothing is granted, whoever is on its way was so before and was not due
  still : (t m : ℕ) → ((k : ℕ) → k < m → n ≤ whose (t + k)) → (i : ℕ) → i < n → moves (t + m) i ≡ true →
      (k : ℕ) → k < m → due (t + k) i ≡ false
  still t zero g i l e k a = absurd (omega arith)
  still t (suc m) g i l e k a =
      let on = r.on_its_way (t + m) i l (subst (λ x. moves x i ≡ true) (omega arith) e) in
      let h = g m (omega arith) in
      let rest : moves (t + m) i ≡ true → k < m → due (t + k) i ≡ false = λ q b. still t m (λ k b. g k (omega arith)) i l q k b in
      ⊎_elim (λ (q : whose (t + m) ≡ i). absurd (omega arith))
      (λ (p : (moves (t + m) i ≡ true) × (due (t + m) i ≡ false)). ⊎_elim (λ b. rest p.0 b)
      (λ (b : m ≤ k). subst (λ x. due (t + x) i ≡ false) (omega arith) p.1) (cases_lt k m))
      on

  -- what is left never grows
  falls : (t m : ℕ) → left (t + m) ≤ left t
  falls t zero = let e : t + 0 ≡ t = omega arith in omega (arith, ap left e)
  falls t (suc m) =
      let h = falls t m in
      let e : left (t + suc m) ≡ left (suc (t + m)) = ap left (omega arith) in
      ⊎_elim (λ l. let q = r.one_less (t + m) l in omega arith) (λ l. let q = r.as_much (t + m) l in omega arith)
      (cases_lt (whose (t + m)) n)

  module _ (d : ℕ) (c : ComesWithin n moves due whose d) where
    -- after as many ticks without a grant nobody is on its way
    at_rest : (t : ℕ) → ((k : ℕ) → k < max d 1 → n ≤ whose (t + k)) → (i : ℕ) → i < n → moves (t + max d 1) i ≡ false
    at_rest t g i l = false_from_ne_true _ (λ e.
        let first : moves t i ≡ true = back (max d 1) g e in
        let (k, a, b) = due_soon n moves due whose d r.on_its_way c t i l first in
        both_ways _ (still t (max d 1) g i l e k (omega arith)) b)
      where
        back : (m : ℕ) → ((k : ℕ) → k < m → n ≤ whose (t + k)) → moves (t + m) i ≡ true → moves t i ≡ true
        back zero g e = subst (λ x. moves x i ≡ true) (omega arith) e
        back (suc m) g e =
            let h = g m (omega arith) in
            let rest : moves (t + m) i ≡ true → moves t i ≡ true = back m (λ k b. g k (omega arith)) in
            ⊎_elim (λ (q : whose (t + m) ≡ i). absurd (omega arith))
            (λ (p : (moves (t + m) i ≡ true) × (due (t + m) i ≡ false)). rest p.0)
            (r.on_its_way (t + m) i l (subst (λ x. moves x i ≡ true) (omega arith) e))

    -- as long as something is left, one of the next so many ticks grants a step
    grants_soon : (t : ℕ) → 0 < left t → (k : ℕ) × (k < max d 1) × (whose (t + k) < n)
    grants_soon t h = ⊎_elim
        (λ (s : (k : ℕ) × (k < max d 1) × (ltb (whose (t + k)) n ≡ true)). (s.0, s.1, ltb-true _ _ s.2))
        (λ (o : (k : ℕ) → k < max d 1 → ltb (whose (t + k)) n ≡ false).
        let g : (k : ℕ) → k < max d 1 → n ≤ whose (t + k) = λ k a. ltb-false _ _ (o k a) in
        let m : ℕ = max d 1 - 1 in
        let same : left (t + m) ≡ left t = kept m (λ k a. g k (omega arith)) in
        let (i, l, e) = r.not_stuck (t + m) (g m (omega arith)) (omega arith) in
        absurd (both_ways _ (at_rest t g i l) (subst (λ x. moves x i ≡ true) (omega arith) e)))
        (some_below (max d 1) (λ k. ltb (whose (t + k)) n))
      where
        kept : (m : ℕ) → ((k : ℕ) → k < m → n ≤ whose (t + k)) → left (t + m) ≡ left t
        kept zero g = ap left (omega arith)
        kept (suc m) g =
            let e : left (t + suc m) ≡ left (suc (t + m)) = ap left (omega arith) in
            let h = kept m (λ k b. g k (omega arith)) in
            let q = r.as_much (t + m) (g m (omega arith)) in omega arith

    -- so nothing is left after so many ticks for each
    nothing_left : (b t : ℕ) → left t ≤ b → left (t + b * max d 1) ≡ 0
    nothing_left zero t h = let q = falls t (0 * max d 1) in omega arith
    nothing_left (suc b) t h =
        let more : left (t + max d 1) ≤ b → left ((t + max d 1) + b * max d 1) ≡ 0 = nothing_left b (t + max d 1) in
        let e : left (t + suc b * max d 1) ≡ left ((t + max d 1) + b * max d 1) = ap left (omega arith) in
        ⊎_elim
        (λ (z : 0 < left t).
        let (k, a, l) = grants_soon t z in
        let q = r.one_less (t + k) l in
        let p = falls t k in
        let o = falls (suc (t + k)) (max d 1 - suc k) in
        let e' : left (suc (t + k) + (max d 1 - suc k)) ≡ left (t + max d 1) = ap left (omega arith) in
        e ∙ more (omega arith))
        (λ (z : left t ≤ 0). e ∙ more (let p = falls t (max d 1) in omega arith))
        (cases_lt 0 (left t))

    in_time : (t : ℕ) → suc (left 0) * max d 1 ≤ t → (left t ≡ 0) × ((i : ℕ) → i < n → moves t i ≡ false)
    in_time t h =
        let s : ℕ = left 0 * max d 1 in
        let z = nothing_left (left 0) 0 (omega arith) in
        let z' : left s ≡ 0 = subst (λ x. left x ≡ 0) (omega arith) z in
        let none : (u : ℕ) → s ≤ u → left u ≡ 0 = λ u a.
        let p = falls s (u - s) in let e : left (s + (u - s)) ≡ left u = ap left (omega arith) in omega arith in
        let no_grant : (u : ℕ) → s ≤ u → n ≤ whose u = λ u a.
        ⊎_elim (λ l. let q = r.one_less u l in let o = none u a in absurd (omega arith)) (λ l. l) (cases_lt (whose u) n) in
        let m : ℕ = t - max d 1 in (
          none t (omega arith),
          λ i l. subst (λ x. moves x i ≡ false) (omega arith) (at_rest m (λ k b. no_grant (m + k) (omega arith)) i l),
        )

pub all_done_in_time : AllDoneInTime
all_done_in_time n left moves due whose d r c t h = in_time n left moves due whose r d c t h
