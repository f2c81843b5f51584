-- When a call is not turned away.
use Rattle.std.proofs.Common.{◌≡◌, ℕ, ◌*◌, ◌<◌, ◌≤◌, true, ltb, leb, List, length, arith}
use Rattle.std.proofs.lemmas.Bool.{ltb-true, le-leb}
use Rattle.std.proofs.lemmas.Bool.Decides.{nat_tests}
use Rattle.rules.specs.Tests.{every}
use Rattle.rules.specs.Memory.{FieldNumbers, field_ok, memory_ok, event_ok, refusal}
use Rattle.rules.proofs.Tests.{every_imp}
use Rattle.rules.proofs.Fields.{accepted}

module _ (lent : FieldNumbers) (m : List ℕ) (kind i : ℕ) (r : List ℕ) where
  -- field, memory and event are accepted
  pub refusal_none : refusal lent m kind i r ≡ 0
      → (field_ok lent ≡ true) × (memory_ok lent m ≡ true) × (event_ok (length lent.bays) kind i r ≡ true)
  unfolding refusal
  refusal_none h = grind (arith, nat_tests)

  pub none_refusal : field_ok lent ≡ true → memory_ok lent m ≡ true → event_ok (length lent.bays) kind i r ≡ true
      → refusal lent m kind i r ≡ 0
  unfolding refusal
  none_refusal p q h = grind (arith, nat_tests)

module _ (lent : FieldNumbers) (ok : field_ok lent ≡ true) where
  -- an event whose route stays on the field
  pub event_none : (kind i : ℕ) (r : List ℕ) → kind ≤ 2 → i < length lent.bays → length r ≤ 256
      → every (λ c. ltb c (lent.across * lent.down)) r ≡ true → event_ok (length lent.bays) kind i r ≡ true
  unfolding event_ok
  event_none kind i r p q l h =
      let most = (accepted lent ok).squares_most in
      let small : every (λ c. leb c 4095) r ≡ true =
      every_imp _ _ r (λ c e. le-leb c 4095 (omega (arith, ltb-true _ _ e))) h in
      grind (arith, nat_tests)
