-- The one that is out may step, and the other may not: computed.
use Rattle.std.proofs.Common.{[], ◌∷◌, refl}
use Rattle.rules.specs.Safe.{first, none}
use Rattle.examples.proofs.Open.{rules}
use Rattle.examples.proofs.one_may_step.Goals as goal

pub returns : goal.returns
unfolding rules
returns c = (refl, first 0 (1 ∷ []) [] refl (first 1 [] [] refl none), refl, refl)
