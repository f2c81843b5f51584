-- Each test is one of the definition.
use Rattle.std.proofs.Common.{eqb, get_or, ◌∙◌, arith}
use Rattle.std.proofs.lemmas.Bool.Decides.{nat_tests}
use Rattle.rules.specs.Field.{bay_ok, free_square, is_bay_to}
use Rattle.rules.specs.Memory.{field_in}
use Rattle.rules.proofs.Words.{any_to_before}
use Rattle.field.proofs.bays.is_own_bay.Goals as goal

pub returns-then-walls-square-ne1 : goal.returns-then-walls-square-ne1
unfolding bay_ok free_square is_bay_to field_in
returns-then-walls-square-ne1 c = λ across down long.
    let l = c.requires in
    let before = c.contains.ensures.value ∙ any_to_before (λ y. eqb y (get_or c.args.bays.now c.args.i 0)) c.args.bays.now c.args.i (omega (arith, l)) in
    grind (arith, nat_tests)

pub returns-else-walls-square-ne1 : goal.returns-else-walls-square-ne1
unfolding bay_ok free_square is_bay_to field_in
returns-else-walls-square-ne1 c = λ across down long. grind (arith, nat_tests)
