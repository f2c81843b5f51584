-- An order is still one with fewer blocks.
use Rattle.agents.proofs.Orders.{runs_fewer}
use Rattle.agents.proofs.fewer_blocks_keep_orders.Goals as goal

pub returns : goal.returns
returns c = λ w w' is f r. runs_fewer w' f r
