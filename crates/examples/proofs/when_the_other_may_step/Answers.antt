-- What is held on the way, and when the other may step: computed.
use Rattle.std.proofs.Common.{refl}
use Rattle.examples.proofs.Open.{rules}
use Rattle.examples.proofs.when_the_other_may_step.Goals as goal

pub returns : goal.returns
unfolding rules
returns c = record { driven = refl; held = (refl, refl, refl, refl, refl); waited = (refl, refl, refl, refl, refl, refl, refl, refl, refl, refl) }
