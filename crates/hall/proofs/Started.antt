-- What the start answers, and that it leaves memory to keep promises of.
use Rattle.std.proofs.Common.{◌≡◌, ℕ, suc, ◌+◌, ◌*◌, true, false, List, [], length, sym, refl, subst, arith}
use Rattle.std.proofs.lemmas.Bool.{eq-eqb, ne_eqb}
use Rattle.rules.specs.Memory.{FieldNumbers, field_in, field_ok, started}
use Rattle.calls.specs.Call.{Played, begun, Reached}
use Rattle.calls.proofs.Keep.{keeps_promises}
use Rattle.hall.specs.Start.{start_refusal, StartLeft, StartAnswered}

module _ (lent : FieldNumbers) (m : List ℕ) where
  pub no_field : field_ok lent ≡ false → start_refusal lent m ≡ 1
  unfolding start_refusal
  no_field h = rw h

  pub no_memory : field_ok lent ≡ true → (length m ≡ 260 * length lent.bays → ⊥) → start_refusal lent m ≡ 2
  unfolding start_refusal
  no_memory h ne = let other = ne_eqb (length m) (260 * length lent.bays) ne in rw (h, other)

  pub both : field_ok lent ≡ true → length m ≡ 260 * length lent.bays → start_refusal lent m ≡ 0
  unfolding start_refusal
  both h long = let same = eq-eqb (length m) (260 * length lent.bays) long in rw (h, same)

  pub start_refused : (k : ℕ) → start_refusal lent m ≡ suc k → StartAnswered lent m (16 + suc k) m
  unfolding StartLeft
  start_refused k e =
      let says : StartLeft (suc k) lent m (16 + suc k) m = (refl, refl) in
      record { says = subst (λ q. StartLeft q lent m (16 + suc k) m) (sym e) says; begins = λ z. absurd (omega arith) }

  pub start_done : field_ok lent ≡ true → length m ≡ 260 * length lent.bays → (m₁ : List ℕ)
      → m₁ ≡ started (field_in lent) (length lent.bays) m → StartAnswered lent m 0 m₁
  unfolding StartLeft
  start_done ok long m₁ is =
      let says : StartLeft 0 lent m 0 m₁ = (refl, is) in
      let p : Reached lent m₁ = ([], subst (Played lent []) (sym is) (begun m ok long)) in
      record {
        says = subst (λ q. StartLeft q lent m 0 m₁) (sym (both ok long)) says;
        begins = λ _. (p, keeps_promises lent m₁ p);
      }
