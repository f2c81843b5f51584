-- No letter, or a, or its forerunner is there.
use Rattle.std.proofs.Common.{◌-◌, arith}
use Rattle.std.proofs.lemmas.Bool.Decides.{nat_tests}
use Rattle.text.specs.Fields.{is_led}
use Rattle.text.proofs.Reading.{among_is}
use Rattle.text.proofs.fields.leads.Goals as goal

pub returns-then-sign-eq97 : goal.returns-then-sign-eq97
unfolding is_led
returns-then-sign-eq97 c = grind (arith, nat_tests)

pub returns-else-sign-eq97 : goal.returns-else-sign-eq97
unfolding is_led
returns-else-sign-eq97 c = let before = among_is (c.args.sign - 1) c.args.all.now in grind (arith, nat_tests, c.contains.ensures.value)
