-- Memory that calls have led to.
use Rattle.std.proofs.Common.{◌≡◌, ℕ, ◌*◌, true, List, length}
use mathlib.Core.Bool.{Bool-set}
use mathlib.Core.Logic.{∥∥₁_elim, ∥∥₁_map}
use Rattle.std.proofs.lemmas.Bool.{eqb-true, and_parts}
use Rattle.rules.specs.Memory.{FieldNumbers, field_ok, memory_ok}
use Rattle.rules.proofs.Fields.{Accepted, accepted}
use Rattle.calls.specs.Call.{Reached, Promised}
use Rattle.calls.proofs.Follow.{follows, played_field}
use Rattle.calls.proofs.Keep.{keeps_promises}

module _ {lent : FieldNumbers} {m : List ℕ} (led : ∥ Reached lent m ∥₁) where
  pub led_field : field_ok lent ≡ true
  led_field = ∥∥₁_elim led (Bool-set _ _) (λ x. played_field lent x.0 m x.1)

  pub led_memory : memory_ok lent m ≡ true
  led_memory = ∥∥₁_elim led (Bool-set _ _) (λ x. (follows lent x.0 m x.1).0)

  pub led_length : length m ≡ 260 * length lent.bays
  unfolding memory_ok
  led_length = eqb-true _ _ (and_parts _ _ led_memory).0

  pub led_keeps : ∥ Promised lent m ∥₁
  led_keeps = ∥∥₁_map led (keeps_promises lent m)

  pub led_facts : Accepted lent
  led_facts = accepted lent led_field
