-- Taking out in any order finds the same.
use Rattle.agents.proofs.Taking.{set_is}
use Rattle.agents.proofs.any_order_is_right.Goals as goal

pub returns : goal.returns
returns c = set_is
