-- A fleet in which one agent was changed: what holds of each, and sums.
use Rattle.std.proofs.Common.{◌≡◌, ℕ, zero, suc, ◌+◌, ◌<◌, ◌≤◌, eqb, sym, refl, ap, subst, ⊎_elim, arith}
use Rattle.std.proofs.lemmas.Bool.{cases_eq, cond_both, eqb-true, eqb-false}
use Rattle.agents.specs.Kinds.{put, sum_to}

-- what holds of the changed one and of each other as it was holds of each
pub put_each : {S : Type 0} (P : ℕ → S → Type 0) (g : ℕ → S) (k : ℕ) (s : S) → P k s → ((i : ℕ) → (i ≡ k → ⊥) → P i (g i)) → (i : ℕ) →
    P i (put g k s i)
unfolding put
put_each P g k s p f i = cond_both (eqb i k) s (g i) (P i) (λ e. subst (λ x. P x s) (sym (eqb-true i k e)) p) (λ e. f i (eqb-false i k e))

pub put_here : {S : Type 0} (g : ℕ → S) (k : ℕ) (s : S) → put g k s k ≡ s
put_here g k s = put_each (λ i x. i ≡ k → x ≡ s) g k s (λ _. refl) (λ i ne e. absurd (ne e)) k refl

pub put_other : {S : Type 0} (g : ℕ → S) (k : ℕ) (s : S) (i : ℕ) → (i ≡ k → ⊥) → put g k s i ≡ g i
put_other g k s = put_each (λ i x. (i ≡ k → ⊥) → x ≡ g i) g k s (λ ne. absurd (ne refl)) (λ i _ _. refl)

-- a sum after a change of one agent that it counts, and of one that it does not
pub sum_put : {S : Type 0} (m : S → ℕ) (g : ℕ → S) (k : ℕ) (s : S) (n : ℕ) →
    (k < n → sum_to m (put g k s) n + m (g k) ≡ sum_to m g n + m s) × (n ≤ k → sum_to m (put g k s) n ≡ sum_to m g n)
unfolding sum_to
sum_put m g k s zero = (λ l. absurd (omega arith), λ _. refl)
sum_put m g k s (suc n) =
    let rest = sum_put m g k s n in
    let here : (n ≡ k → ⊥) → m (put g k s n) ≡ m (g n) = λ ne. ap m (put_other g k s n ne) in (
      λ l. ⊎_elim
          (λ (e : n ≡ k). let h : m (put g k s n) ≡ m s = subst (λ x. m (put g k s x) ≡ m s) (sym e) (ap m (put_here g k s)) in
          let h' : m (g n) ≡ m (g k) = ap (λ x. m (g x)) e in let r = rest.1 (omega arith) in omega arith)
          (λ (ne : n ≡ k → ⊥). let h = here ne in let r = rest.0 (omega arith) in omega arith)
          (cases_eq n k),
      λ l. let h = here (omega arith) in let r = rest.1 (omega arith) in omega arith,
    )
