-- The small field is accepted: computed.
use Rattle.std.proofs.Common.{refl}
use Rattle.examples.proofs.Open.{rules}
use Rattle.instances.proofs.row_is_accepted.Goals as goal

pub returns : goal.returns
unfolding rules
returns c = (refl, refl)
