-- Neither the blocked pair nor the ring can be put in an order.
use Rattle.instances.proofs.Unsafe.{no_order_exists}
use Rattle.instances.proofs.no_order_exists.Goals as goal

pub returns : goal.returns
returns c = no_order_exists
