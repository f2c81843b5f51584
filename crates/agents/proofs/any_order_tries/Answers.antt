-- Trying leaves nobody exactly if taking out in any order does.
use Rattle.agents.proofs.Orders.{set_tries}
use Rattle.agents.proofs.any_order_tries.Goals as goal

pub returns : goal.returns
returns c = set_tries
