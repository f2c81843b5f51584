-- Either of two in their bays may step: computed.
use Rattle.std.proofs.Common.{[], ◌∷◌, refl}
use Rattle.rules.specs.Safe.{first, none}
use Rattle.examples.proofs.Open.{rules}
use Rattle.examples.proofs.either_may_step.Goals as goal

pub returns : goal.returns
unfolding rules
returns c = record { sound = refl; granted = (refl, first 1 [] (0 ∷ []) refl (first 0 [] [] refl none), refl, refl) }
