-- A step of a shuttle that is on its way is not granted.
use Rattle.std.proofs.Common.{arith}
use Rattle.std.proofs.lemmas.Bool.Decides.{nat_tests}
use Rattle.rules.specs.Event.{grants}
use Rattle.examples.proofs.no_second_step.Goals as goal

pub returns : goal.returns
unfolding grants
returns c = λ f g i h. grind (arith, nat_tests)
