-- The answer of a call and of the start, as a number, is below 256.
use Rattle.std.proofs.Common.{ℕ, zero, suc, ◌≤◌, List, ⊎_elim, arith}
use Rattle.std.proofs.lemmas.Bool.Decides.{nat_tests}
use Rattle.rules.specs.Field.{Field}
use Rattle.rules.specs.Event.{Event}
use Rattle.rules.specs.Memory.{FieldNumbers, refusal}
use Rattle.calls.specs.Call.{Says}
use Rattle.hall.specs.Start.{start_refusal, StartLeft, StartSays}

refusal_most : (lent : FieldNumbers) (m : List ℕ) (kind i : ℕ) (r : List ℕ) → refusal lent m kind i r ≤ 3
unfolding refusal
refusal_most lent m kind i r = grind (arith, nat_tests)

says_small : (k : ℕ) (f : Field) (m : List ℕ) (e : Event) (n : ℕ) (m₁ : List ℕ) → k ≤ 3 → Says k f m e n m₁ → n ≤ 255
unfolding Says
says_small zero f m e n m₁ l s = ⊎_elim (λ t. omega (arith, t.0)) (λ t. omega (arith, t.0)) s
says_small (suc k) f m e n m₁ l s = omega (arith, s.0)

-- of what an event of any field leaves
pub call_small : (lent : FieldNumbers) (m : List ℕ) (kind i : ℕ) (r : List ℕ) (f : Field) (e : Event) (n : ℕ) (m₁ : List ℕ)
    → Says (refusal lent m kind i r) f m e n m₁ → n ≤ 255
call_small lent m kind i r f e n m₁ s = says_small _ f m e n m₁ (refusal_most lent m kind i r) s

start_most : (lent : FieldNumbers) (m : List ℕ) → start_refusal lent m ≤ 3
unfolding start_refusal
start_most lent m = grind (arith, nat_tests)

start_small : (k : ℕ) (lent : FieldNumbers) (m : List ℕ) (n : ℕ) (m₁ : List ℕ) → k ≤ 3 → StartLeft k lent m n m₁ → n ≤ 255
unfolding StartLeft
start_small zero lent m n m₁ l s = omega (arith, s.0)
start_small (suc k) lent m n m₁ l s = omega (arith, s.0)

-- the same of the start
pub begin_small : (lent : FieldNumbers) (m : List ℕ) (n : ℕ) (m₁ : List ℕ) → StartSays lent m n m₁ → n ≤ 255
begin_small lent m n m₁ s = start_small _ lent m n m₁ (start_most lent m) s
