-- One letter more.
use Rattle.std.proofs.Common.{vec_items, sym, ap, ◌∙◌, arith}
use Rattle.field.specs.Model.{field_of}
use Rattle.field.specs.Directions.{letter_of}
use Rattle.session.proofs.Letters.{letter_more, letters_over}
use Rattle.session.proofs.leading.letters_of.Goals as goal

pub loop-square-preserved : goal.loop-square-preserved
loop-square-preserved c =
    letter_more (field_of c.args.field.now) c.loop-square.at (vec_items c.loop-square.letters) (vec_items c.push.new.self) c.args.route.now
    c.loop-square.square-index c.into.result (omega arith) (c.into.ensures ∙ ap letter_of c.direction_to.ensures) c.in_ok-push.ensures.items
    ∙ c.loop-square.invariant

pub returns : goal.returns
returns c =
    sym (letters_over (field_of c.args.field.now) c.loop-square.at (vec_items c.loop-square.letters) c.args.route.now c.loop-square.square-index (omega arith))
    ∙ c.loop-square.invariant
