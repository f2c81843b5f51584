-- Each comes home, where each that waits gets its step: over the fleets at the choices of a row of ticks.
use Rattle.std.proofs.Common.{◌≡◌, ℕ, zero, suc, ◌+◌, ◌*◌, ◌<◌, ◌≤◌, Bool, true, false, length, ap, ◌∙◌, subst, ⊎_elim, arith}
use Rattle.std.proofs.lemmas.Bool.{both_ways, cases_Bool}
use Rattle.rules.specs.Tests.{is_empty}
use Rattle.rules.specs.Field.{Field}
use Rattle.rules.specs.Shuttle.{Fleet}
use Rattle.rules.proofs.Tests.{empty_from}
use Rattle.turns.specs.Tick.{waits}
use Rattle.turns.proofs.Choices.{Choices, waits_from, stops, shorter}

module _ (f : Field) (d : ℕ) (h : ℕ → Fleet) (w : ℕ → ℕ → ℕ) (c : ℕ → ℕ) (due : ℕ → ℕ → Bool)
    (r : Choices f d h w c due) (i : ℕ) (l : i < f.shuttles) where
  -- where it gets each step within p ticks, it is home within so many ticks for each square, and d more
  module _ (p : ℕ) (gets : (t : ℕ) → waits (h t i) ≡ true → (k : ℕ) × (k < p) × (h (t + k) i ≡ h t i) × (c (t + k) ≡ i)) where
    abbrev Done : ℕ → ℕ → Type 0
    Done b t = (k : ℕ) × (k ≤ b) × ((h (t + k) i).moving ≡ false) × (is_empty (h (t + k) i).route ≡ true)

    later : (b b' j t : ℕ) → j + b ≤ b' → Done b (t + j) → Done b' t
    later b b' j t q (k, x, y, z) =
        let e : (t + j) + k ≡ t + (j + k) = omega arith in
        (j + k, omega arith, subst (λ u. (h u i).moving ≡ false) e y, subst (λ u. is_empty (h u i).route ≡ true) e z)

    from_any : (n t : ℕ) → length (h t i).route ≤ n →
        ((t : ℕ) → length (h t i).route ≤ n → (h t i).moving ≡ false → is_empty (h t i).route ≡ false → Done (n * (p + d)) t) →
        Done (n * (p + d) + d) t
    from_any n t q more = ⊎_elim
        (λ (v : (h t i).moving ≡ true).
        let (k, x, y) = r.soon t i l v in
        let (j, a, b, e) = stops f d h w c due r i l k t v y in
        let len : length (h (t + j) i).route ≡ length (h t i).route = ap length e in
        later (n * (p + d)) (n * (p + d) + d) j t (omega arith) (stood (t + j) (omega arith) b))
        (λ (v : (h t i).moving ≡ false). let (k, x, y, z) = stood t q v in (k, omega arith, y, z))
        (cases_Bool (h t i).moving)
      where
        stood : (t : ℕ) → length (h t i).route ≤ n → (h t i).moving ≡ false → Done (n * (p + d)) t
        stood t q v = ⊎_elim
            (λ u. let e : t ≡ t + 0 = omega arith in
            (0, omega arith, subst (λ u. (h u i).moving ≡ false) e v, subst (λ n. is_empty (h n i).route ≡ true) e u))
            (λ u. more t q v u)
            (cases_Bool (is_empty (h t i).route))

    pub done : (n t : ℕ) → length (h t i).route ≤ n → Done (n * (p + d) + d) t
    done zero t q = from_any zero t q (λ t q _ u. absurd (both_ways _ u (empty_from (h t i).route (omega arith))))
    done (suc n) t q =
        let rest : (t : ℕ) → length (h t i).route ≤ n → Done (n * (p + d) + d) t = done n in
        from_any (suc n) t q (λ t q v u.
        let (k, x, y, z) = gets t (waits_from (h t i) v u) in
        let len = shorter f d h w c due r i l (t + k) z (ap (λ o. is_empty o.route) y ∙ u) in
        let len' : length (h (t + k) i).route ≡ length (h t i).route = ap (λ o. length o.route) y in
        let e : suc (t + k) ≡ t + suc k = omega arith in
        later (n * (p + d) + d) (suc n * (p + d)) (suc k) t (omega arith)
        (subst (Done (n * (p + d) + d)) e (rest (suc (t + k)) (omega arith))))
