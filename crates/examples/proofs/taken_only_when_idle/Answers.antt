-- An order of a shuttle that is on its way, or has something left, is not taken.
use Rattle.std.proofs.Common.{arith}
use Rattle.std.proofs.lemmas.Bool.Decides.{nat_tests}
use Rattle.rules.specs.Event.{takes}
use Rattle.examples.proofs.taken_only_when_idle.Goals as goal

pub returns : goal.returns
unfolding takes
returns c = λ f g i r. (λ h. grind (arith, nat_tests), λ h. grind (arith, nat_tests))
