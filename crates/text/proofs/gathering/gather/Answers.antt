-- Something is made of one more, or nothing.
use Rattle.std.proofs.Common.{vec_items, refl, sym, ap, ◌∙◌, arith}
use Rattle.text.proofs.Making.{gather_more, gather_none, gather_over}
use Rattle.text.proofs.gathering.gather.Goals as goal

pub returns-in_default : goal.returns-in_default
returns-in_default g c = λ f makes.
    let here = makes c.item-item.result c.make.result (record { shown = _; shows = refl; says = record { met = c.make.ensures } }) in
    sym (gather_none f (vec_items c.loop-item.all) c.args.items.now c.loop-item.item-index c.item-item.result (omega arith)
    (ap f (sym c.item-item.is) ∙ sym here ∙ c.in_default.is))
    ∙ c.loop-item.invariant f makes

pub loop-item-preserved : goal.loop-item-preserved
loop-item-preserved g c = λ f makes.
    let here = makes c.item-item.result c.make.result (record { shown = _; shows = refl; says = record { met = c.make.ensures } }) in
    gather_more f (vec_items c.loop-item.all) (vec_items c.push.new.self) c.in-Some.made c.args.items.now c.loop-item.item-index c.item-item.result (omega arith)
    (ap f (sym c.item-item.is) ∙ sym here ∙ c.in-Some.is) c.in_ok-push.ensures.items
    ∙ c.loop-item.invariant f makes

pub returns : goal.returns
returns g c = λ f makes. sym (gather_over f (vec_items c.loop-item.all) c.args.items.now c.loop-item.item-index (omega arith)) ∙ c.loop-item.invariant f makes
