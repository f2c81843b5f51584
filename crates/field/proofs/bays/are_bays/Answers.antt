-- Each bay is looked at.
use Rattle.std.proofs.Common.{refl, ◌∙◌, arith}
use Rattle.std.proofs.lemmas.Iterator.{YieldsList-from_range}
use Rattle.std.proofs.lemmas.Iterator.Search.{all_from_yields_List}
use borrow.Author.Tests.{tests}
use Rattle.std.proofs.Common.{rules, length}
use Rattle.rules.specs.Field.{bay_ok}
use Rattle.rules.specs.Memory.{field_numbers, field_in}
use Rattle.rules.proofs.Words.{every_to_range}
use Rattle.field.proofs.bays.are_bays.Goals as goal

pub returns : goal.returns
returns c = λ across down long.
    let ok = bay_ok (field_in (field_numbers across down c.args.walls.now c.args.bays.now)) in
    all_from_yields_List ok _ _ _ c.all.ensures.ran (YieldsList-from_range 0 (length c.args.bays.now) (length c.args.bays.now) refl (omega arith)) (λ x b q k. search (rules, tests))
    ∙ every_to_range ok (length c.args.bays.now)
