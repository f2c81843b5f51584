-- What a call says, it keeps: memory stays reached and keeps its promises, and what is left falls.
use Rattle.std.proofs.Common.{◌≡◌, ℕ, zero, suc, List, refl, subst, arith}
use Rattle.rules.specs.Memory.{FieldNumbers, field_in, event_in, refusal}
use Rattle.calls.specs.Call.{Says, more, refused, Reached, Answered}
use Rattle.calls.proofs.Keep.{keeps_promises}
use Rattle.calls.proofs.Less.{step_leaves_less, event_leaves_less}

pub answered : (lent : FieldNumbers) (m : List ℕ) (kind i : ℕ) (r : List ℕ) (n : ℕ) (m₁ : List ℕ)
    → Says (refusal lent m kind i r) (field_in lent) m (event_in kind i r) n m₁ → Answered lent m kind i r n m₁
unfolding Says
answered lent m kind i r n m₁ says = by_refusal (refusal lent m kind i r) refl says
  where
    SaysOf : ℕ → (kind answer : ℕ) → Type 0
    SaysOf k kind answer = Says k (field_in lent) m (event_in kind i r) answer m₁

    reached : (k : ℕ) → refusal lent m kind i r ≡ k → SaysOf k kind n → Reached lent m → Reached lent m₁
    reached zero e s p = (_, more p.0 m m₁ kind i r n p.1 e s)
    reached (suc k) e s p = (_, refused p.0 m m₁ kind i r k n p.1 e s)

    by_refusal : (k : ℕ) → refusal lent m kind i r ≡ k → SaysOf k kind n → Answered lent m kind i r n m₁
    by_refusal zero e s =
        record {
          says = says;
          stays = λ p. let q = reached zero e s p in (q, keeps_promises lent m₁ q);
          less = λ one happened.
              step_leaves_less lent m i r m₁ (subst (λ k. refusal lent m k i r ≡ 0) one e)
              (subst (λ k. SaysOf 0 k 0) one (subst (SaysOf 0 kind) happened s));
          falls = λ some happened. event_leaves_less lent m kind i r m₁ some e (subst (SaysOf 0 kind) happened s);
        }
    by_refusal (suc k) e s =
        record {
          says = says;
          stays = λ p. let q = reached (suc k) e s p in (q, keeps_promises lent m₁ q);
          less = λ one happened. absurd (omega (arith, s.0, happened));
          falls = λ some happened. absurd (omega (arith, s.0, happened));
        }
