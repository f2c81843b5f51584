-- A shuttle in its bay blocks nobody.
use Rattle.std.proofs.Common.{sym}
use Rattle.std.proofs.lemmas.Bool.{false_from_ne_true}
use Rattle.promise.proofs.Places.{route_avoids}
use Rattle.instances.proofs.no_route_over_other_bays.Goals as goal

pub returns : goal.returns
returns c = λ f i j c r can l k ne good. false_from_ne_true _ (λ h. ne (sym (route_avoids f can i j l k c r good h)))
