-- Two shuttles of which each stands on the other's next square are not safe: computed.
use Rattle.std.proofs.Common.{refl}
use Rattle.examples.proofs.Open.{rules}
use Rattle.examples.proofs.blocked_pair_is_not_safe.Goals as goal

pub returns : goal.returns
unfolding rules
returns c = refl
