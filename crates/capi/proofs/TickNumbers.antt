-- The answer of a tick, as a number, is small.
use Rattle.std.proofs.Common.{Some, None, Ok, Err, Option, Result, ◌≡◌, ℕ, zero, suc, ◌<◌, ◌≤◌, ◌^◌, true, List, length, add-zero, refl, ⊎_elim, arith}
use Rattle.std.proofs.lemmas.Bool.Decides.{nat_tests}
use Rattle.rules.specs.Memory.{FieldNumbers, field_ok}
use Rattle.rules.proofs.Fields.{accepted}
use Rattle.field.specs.declared.refusal.Refusal.{Refusal}
use Rattle.turns.specs.Tick.{Turn}
use Rattle.tick.specs.Answer.{number as tick_number, number_for}
use Rattle.tick.specs.Tick.{tick_refusal, ComesTo, TickSays, Answered}
use Rattle.capi.specs.Numbers.{number}

-- kind 0 is a tick's
same_number : (r : Result (Option ℕ) Refusal) → number 0 r ≡ tick_number r
same_number (Ok (Some i)) = add-zero _
same_number (Ok None) = refl
same_number (Err r) = refl

refusal_most : (lent : FieldNumbers) (m vs marks : List ℕ) → tick_refusal lent m vs marks ≤ 6
unfolding tick_refusal
refusal_most lent m vs marks = grind (arith, nat_tests)

not_refused : (lent : FieldNumbers) (m vs marks : List ℕ) → tick_refusal lent m vs marks ≡ 0 → field_ok lent ≡ true
unfolding tick_refusal
not_refused lent m vs marks e = grind (arith, nat_tests)

for_small : (n i : ℕ) → i ≤ n → n ≤ 16 → number_for n i ≤ 4096
unfolding number_for
for_small n i l few = grind (arith, nat_tests)

comes_small : (t : Turn) (lent : FieldNumbers) (marks m : List ℕ) (n : ℕ) (m₁ vs₁ : List ℕ) → length lent.bays ≤ 16
    → ComesTo t lent marks m n m₁ vs₁ → n ≤ 4096
comes_small t lent marks m n m₁ vs₁ few c =
    let whose : t.whose ≤ length lent.bays = ⊎_elim (λ p. omega (arith, p.0)) (λ p. omega (arith, p.0)) c.row.then in
    let small = for_small (length lent.bays) t.whose whose few in let is = c.answer in omega arith

says_small : (k : ℕ) (lent : FieldNumbers) (m vs marks : List ℕ) (n : ℕ) (m₁ vs₁ : List ℕ) → k ≤ 6 → (k ≡ 0 → length lent.bays ≤ 16)
    → TickSays k lent m vs marks n m₁ vs₁ → n ≤ 4096
unfolding TickSays
says_small zero lent m vs marks n m₁ vs₁ l few s = comes_small _ lent marks m n m₁ vs₁ (few refl) s
says_small (suc k) lent m vs marks n m₁ vs₁ l few s = omega (arith, s.0)

pub tick_small : (lent : FieldNumbers) (m vs marks : List ℕ) (n : ℕ) (m₁ vs₁ : List ℕ)
    → TickSays (tick_refusal lent m vs marks) lent m vs marks n m₁ vs₁ → n < 131072
tick_small lent m vs marks n m₁ vs₁ s =
    let small = says_small _ lent m vs marks n m₁ vs₁ (refusal_most lent m vs marks)
    (λ e. (accepted lent (not_refused lent m vs marks e)).few) s in omega arith

-- so the number that is handed on has 64 bits
pub tick_fits : (lent : FieldNumbers) (m vs marks m₁ vs₁ : List ℕ) (r : Result (Option ℕ) Refusal)
    → Answered lent m vs marks (tick_number r) m₁ vs₁ → number 0 r < 2 ^ 64
tick_fits lent m vs marks m₁ vs₁ r a =
    let small = tick_small lent m vs marks (tick_number r) m₁ vs₁ a.says in let same = same_number r in omega arith
