-- A letter stood before it in the rows before, or in its own.
use Rattle.std.proofs.Common.{arith}
use Rattle.std.proofs.lemmas.Bool.Decides.{nat_tests}
use Rattle.text.specs.Fields.{sign_fits}
use Rattle.text.proofs.Reading.{among_is, among_both}
use Rattle.text.proofs.fields.sign_follows.Goals as goal

pub returns-then-not-contains : goal.returns-then-not-contains
unfolding sign_fits
returns-then-not-contains c =
    let both = among_both c.args.sign c.args.before.now c.args.row.now in
    let before = among_is c.args.sign c.args.before.now in
    let row = among_is c.args.sign c.args.row.now in
    grind (arith, nat_tests)

pub returns-else-not-contains : goal.returns-else-not-contains
unfolding sign_fits
returns-else-not-contains c =
    let both = among_both c.args.sign c.args.before.now c.args.row.now in
    let before = among_is c.args.sign c.args.before.now in
    grind (arith, nat_tests)

pub returns-else-is_bay_letter : goal.returns-else-is_bay_letter
unfolding sign_fits
returns-else-is_bay_letter c = grind (arith, nat_tests)
