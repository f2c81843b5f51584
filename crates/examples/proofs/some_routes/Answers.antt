-- What is a route: computed.
use Rattle.std.proofs.Common.{refl}
use Rattle.examples.proofs.Open.{rules}
use Rattle.examples.proofs.some_routes.Goals as goal

pub returns : goal.returns
unfolding rules
returns c = record { out_and_back = refl; nowhere = refl; no_other_bay = refl; no_own_bay = refl; no_jump = refl; no_wrap = refl; no_end_outside = refl; no_rest_outside = refl }
