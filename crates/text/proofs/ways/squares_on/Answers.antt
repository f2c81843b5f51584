-- One way more is led over.
use Rattle.std.proofs.Common.{vec_items, sym, ap, ◌∙◌, arith, unwrap_or}
use Rattle.field.specs.Model.{field_of}
use Rattle.text.proofs.Making.{square_more, squares_over}
use Rattle.text.proofs.ways.squares_on.Goals as goal

pub loop-way-preserved : goal.loop-way-preserved
loop-way-preserved c =
    square_more (field_of c.args.field.now) c.loop-way.at (vec_items c.loop-way.squares) (vec_items c.push.new.self) c.args.ways.now c.loop-way.way-index _
    c.unwrap_or-at.result (omega arith) (c.unwrap_or-at.ensures ∙ ap (λ o. unwrap_or o c.loop-way.at) c.next.ensures) c.in_ok-push.ensures.items
    ∙ c.loop-way.invariant

pub returns : goal.returns
returns c =
    sym (squares_over (field_of c.args.field.now) c.loop-way.at (vec_items c.loop-way.squares) c.args.ways.now c.loop-way.way-index (omega arith))
    ∙ c.loop-way.invariant
