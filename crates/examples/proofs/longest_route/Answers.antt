-- 256 squares are taken, and 258 are not; an order leaves the shuttle standing: computed.
use Rattle.std.proofs.Common.{refl}
use Rattle.examples.proofs.Open.{rules}
use Rattle.examples.proofs.longest_route.Goals as goal

pub returns : goal.returns
unfolding rules
returns c = record { longest = (refl, refl, refl); stands = refl }
