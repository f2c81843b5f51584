-- Who can go, by ranks: a number for each so that blockers have smaller ones.
use Rattle.std.proofs.Common.{◌≡◌, ℕ, zero, suc, ◌<◌, Bool, true, false, cond, not, ◌||◌, eqb, List, ◌++◌, sym, ap, ◌∙◌, subst, ⊎_elim, arith}
use Rattle.std.proofs.lemmas.Bool.{cases_Bool, both_ways, and_parts, false_from_ne_true}
use Rattle.std.proofs.lemmas.Bool.Decides.{nat_tests}
use Rattle.agents.specs.Numbers.{among, all_to}
use Rattle.agents.specs.Going.{CanGo, goes, clear, take_out, left_over}
use Rattle.agents.proofs.Tests.{among_middle, among_all_to, clear_tells}
use Rattle.agents.proofs.Going.{below}
use Rattle.agents.proofs.Taking.{set_stuck, Stays, Loses, take_out_is, left_over_all}

-- whoever is in In can go, if nobody of In is closed and each blocker is in In with a smaller rank
pub ranked_go : (n : ℕ) (w : ℕ → ℕ → Bool) (k : ℕ → Bool) (rank : ℕ → ℕ) (In : ℕ → Type 0) →
    ((i : ℕ) → i < n → In i → (k i ≡ false) × ((j : ℕ) → j < n → (i ≡ j → ⊥) → w i j ≡ true → In j × (rank j < rank i))) →
    (i : ℕ) → i < n → In i → CanGo n w k i
ranked_go n w k rank In f i l h = under (suc (rank i)) i (omega arith) l h
  where
    under : (m : ℕ) (i : ℕ) → rank i < m → i < n → In i → CanGo n w k i
    under zero i r l h = absurd (omega arith)
    under (suc m) i r l h =
        let next : (j : ℕ) → rank j < m → j < n → In j → CanGo n w k j = under m in
        goes i l (f i l h).0 (λ j lj ne e. let q = (f i l h).1 j lj ne e in next j (omega arith) lj q.0)

-- the number of rounds of taking out that i lasts
rounds : ℕ → (ℕ → ℕ → Bool) → (ℕ → Bool) → List ℕ → ℕ → ℕ
rounds zero w k is i = 0
rounds (suc m) w k is i = cond (among i is) (suc (rounds m w k (take_out w k is is) i)) 0

-- another that blocks one that is taken out is taken out earlier
rounds_fall : (m : ℕ) (w : ℕ → ℕ → Bool) (k : ℕ → Bool) (is : List ℕ) (i j : ℕ) → among i is ≡ true → among i (left_over m w k is) ≡ false →
    (i ≡ j → ⊥) → w i j ≡ true →
    rounds m w k is j < rounds m w k is i
unfolding rounds left_over
rounds_fall zero w k is i j a e ne v = absurd (both_ways _ e a)
rounds_fall (suc m) w k is i j a e ne v =
    let js = take_out w k is is in
    let next : among i js ≡ true → rounds m w k js j < rounds m w k js i = λ a'. rounds_fall m w k js i j a' e ne v in
    ⊎_elim
    (λ a'. let h = next a' in grind arith)
    (λ (a' : among i js ≡ false). let h : among j is ≡ false = false_from_ne_true (among j is)
    (λ b. both_ways (w i j) (clear_tells w i is (last a') j ne b) v) in grind arith)
    (cases_Bool (among i js))
  where
    last : among i (take_out w k is is) ≡ false → clear w i is ≡ true
    last a' = ⊎_elim
        (λ (t : Stays w k is is). absurd (both_ways _ a' (ap (among i) t.0 ∙ a)))
        (λ (t : Loses w k is is).
        let (x, before, after, e₁, e₂, c) = t in
        let mid : among i is ≡ (eqb i x || among i (before ++ after)) = ap (among i) e₁ ∙ among_middle i x before after in
        let gone : among i (before ++ after) ≡ false = sym (ap (among i) e₂) ∙ a' in
        let same : i ≡ x = grind (arith, nat_tests) in
        subst (λ y. clear w y is ≡ true) (sym same) (and_parts (not (k x)) (clear w x is) c).1)
        (take_out_is w k is is)

-- those who can go have ranks
pub go_ranked : (n : ℕ) (w : ℕ → ℕ → Bool) (k : ℕ → Bool) →
    (rank : ℕ → ℕ) × ((i j : ℕ) → CanGo n w k i → j < n → (i ≡ j → ⊥) → w i j ≡ true → rank j < rank i)
go_ranked n w k = (
  rounds n w k (all_to n),
  λ i j g l ne v. let h = below g in
      rounds_fall n w k (all_to n) i j (among_all_to n i ∙ grind (arith, nat_tests))
      (set_stuck n w k (λ i. among i (left_over n w k (all_to n))) (left_over_all n w k).2 g) ne v,
)
