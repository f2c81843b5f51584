-- Rounds over sets of blockers: whoever is taken out can go, and where a round takes out nobody, nobody else can.
use Rattle.std.proofs.Common.{◌≡◌, ℕ, zero, suc, ◌^◌, ◌<◌, ◌≤◌, true, false, not, ◌&&◌, ◌||◌, eqb, List, get_or, sym, refl, ap, ◌∙◌, subst, inr, ⊎_elim, arith, lit<}
use lib.Bits.{bit_or, or_add_and, and_le_r}
use Rattle.std.proofs.lemmas.Bool.{cases_Bool, cases_eq, both_ways, eqb-true, eq-eqb, or_cases, or_left, or_right, or_parts, and_parts, not-true}
use Rattle.std.proofs.lemmas.Bool.Decides.{nat_tests}
use Rattle.agents.specs.Going.{CanGo, goes, nobody, NoneFree}
use Rattle.agents.proofs.Tests.{some_below}
use Rattle.safety.specs.Masks.{has, with_free, round}
use Rattle.safety.proofs.Masks.{has_or, has_one, or_within}

-- the set with shuttle i in it
with_has : (out i j : ℕ) → has (bit_or out (2 ^ i)) j ≡ (has out j || eqb i j)
with_has out i j = has_or out (2 ^ i) j ∙ ap (λ t. has out j || t) (has_one i j)

below_power : (n : ℕ) → n < 2 ^ n
below_power zero = lit< tt
below_power (suc n) = omega (arith, below_power n)

more_or_equal : (a b : ℕ) → a ≤ bit_or a b
more_or_equal a b = omega (arith, or_add_and a b, and_le_r a b)

module _ (bs : List ℕ) where
  free_more : (i out : ℕ) → out ≤ with_free bs i out
  unfolding with_free
  free_more i out = let l = more_or_equal out (2 ^ i) in grind (arith, l)

  pub round_more : (m out : ℕ) → out ≤ round bs m out
  unfolding round
  round_more zero out = omega arith
  round_more (suc m) out = let a = round_more m out in let b = free_more m (round bs m out) in omega arith

  -- a round that takes out nobody took out nobody at any shuttle
  round_fixed : (n m out : ℕ) → m ≤ n → round bs n out ≡ out → round bs m out ≡ out
  unfolding round
  round_fixed zero m out l e = let z : m ≡ 0 = omega arith in rw z
  round_fixed (suc n) m out l e =
      let a = round_more n out in
      let b = free_more n (round bs n out) in
      ⊎_elim (λ q. rw q e) (λ ne. round_fixed n m out (omega arith) (omega arith)) (cases_eq m (suc n))

  module _ (n : ℕ) where
    -- whoever is in the set can go
    abbrev pub AllCan : ℕ → Type 0
    AllCan out = (j : ℕ) → j < n → has out j ≡ true → CanGo n (λ i j. has (get_or bs i 0) j) nobody j

    free_can : (i out : ℕ) → i < n → AllCan out → AllCan (with_free bs i out)
    unfolding with_free
    free_can i out l all =
        let w = bit_or out (2 ^ i) in
        ⊎_elim
        (λ (e : eqb (bit_or (get_or bs i 0) w) w ≡ true).
        let within : bit_or (get_or bs i 0) w ≡ w = eqb-true _ _ e in
        let can : CanGo n (λ i j. has (get_or bs i 0) j) nobody i =
        goes i l refl (λ k m ne h.
        let in_w : has w k ≡ true = ap (λ t. has t k) (sym within) ∙ has_or (get_or bs i 0) w k ∙ or_left _ _ h in
        ⊎_elim (λ o. all k m o) (λ q. absurd (ne (eqb-true _ _ q))) (or_cases _ _ (sym (with_has out i k) ∙ in_w))) in
        rw e (λ j m h. ⊎_elim (λ o. all j m o) (λ q. subst (CanGo n (λ i j. has (get_or bs i 0) j) nobody) (eqb-true _ _ q) can)
        (or_cases _ _ (sym (with_has out i j) ∙ h))))
        (λ (e : eqb (bit_or (get_or bs i 0) w) w ≡ false). rw e all)
        (cases_Bool (eqb (bit_or (get_or bs i 0) w) w))

    pub round_can : (m out : ℕ) → m ≤ n → AllCan out → AllCan (round bs m out)
    unfolding round
    round_can zero out l all = all
    round_can (suc m) out l all = free_can m (round bs m out) (omega arith) (round_can m out (omega arith) all)

    -- where a round takes out nobody, each that is not out is blocked by another that is not out
    pub round_stuck : ((i j : ℕ) → i < n → has (get_or bs i 0) j ≡ true → j < n) → (out : ℕ)
        → round bs n out ≡ out → NoneFree n (λ i j. has (get_or bs i 0) j) nobody (λ i. not (has out i))
    unfolding round with_free
    round_stuck below out fixed i l h =
        let most = get_or bs i 0 in
        let w = bit_or out (2 ^ i) in
        let before = round_fixed n i out (omega arith) fixed in
        let here : with_free bs i out ≡ out = subst (λ t. with_free bs i t ≡ out) before (round_fixed n (suc i) out (omega arith) fixed) in
        let i_out : has out i ≡ false = not-true _ h in
        inr (⊎_elim
        (λ (t : (j : ℕ) × (j < most) × ((has (get_or bs i 0) j && not (has w j)) ≡ true)).
        let p = and_parts _ _ t.2 in
        let q = or_parts _ _ (sym (with_has out i t.0) ∙ not-true _ p.1) in
        (t.0, below i t.0 l p.0, (λ e. both_ways _ q.1 (eq-eqb _ _ e)), ap not q.0, p.0))
        (λ none.
        let same : bit_or (get_or bs i 0) w ≡ w = or_within most (get_or bs i 0) w (below_power most) (λ j m g. let z = none j m in grind (arith, nat_tests)) in
        let taken : w ≡ out = rw (eq-eqb (bit_or (get_or bs i 0) w) w same) at here in
        absurd (both_ways _ i_out (ap (λ t. has t i) (sym taken) ∙ with_has out i i ∙ or_right _ _ (eq-eqb i i refl))))
        (some_below most (λ j. has (get_or bs i 0) j && not (has w j))))
