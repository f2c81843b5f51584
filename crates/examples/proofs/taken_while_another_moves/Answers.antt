-- An order is taken while another shuttle is on its way: computed.
use Rattle.std.proofs.Common.{refl}
use Rattle.examples.proofs.Open.{rules}
use Rattle.examples.proofs.taken_while_another_moves.Goals as goal

pub returns : goal.returns
unfolding rules
returns c = (refl, refl)
