-- One pass fails where all is safe: computed.
use Rattle.std.proofs.Common.{[], ◌∷◌, refl}
use Rattle.rules.specs.Safe.{first, none}
use Rattle.examples.proofs.Open.{rules}
use Rattle.examples.proofs.one_pass_fails.Goals as goal

pub returns : goal.returns
unfolding rules
returns c = (refl, refl, first 1 [] (0 ∷ []) refl (first 0 [] [] refl none), refl)
