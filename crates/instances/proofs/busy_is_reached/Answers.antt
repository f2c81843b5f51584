-- Memory in which a shuttle moves, has squares left, and another's step is not granted.
use Rattle.instances.proofs.Reached.{busy_is_reached}
use Rattle.instances.proofs.busy_is_reached.Goals as goal

pub returns : goal.returns
returns c = busy_is_reached
