-- No row of events leads there.
use Rattle.instances.proofs.Unsafe.{blocked_pair_never_comes_about}
use Rattle.instances.proofs.blocked_pair_never_comes_about.Goals as goal

pub returns : goal.returns
returns c = blocked_pair_never_comes_about
