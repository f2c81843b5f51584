-- One row more fits, or does not.
use Rattle.std.proofs.Common.{◌≡◌, [], Some, vec_items, ap, sym, ◌∙◌, arith}
use Rattle.std.specs.Option.{option_map}
use Rattle.field.specs.declared.refusal.Refusal.TheVariants.{Text}
use Rattle.text.specs.Lines.{pieces}
use Rattle.text.specs.Fields.{misfit}
use Rattle.text.proofs.Reading.{fit_turn, fit_wrong, rows_over}
use Rattle.text.proofs.fields.signs_of.Goals as goal

pub returns-then-not-row_follows : goal.returns-then-not-row_follows
returns-then-not-row_follows c =
    let wrong = fit_wrong c.args.across c.as_slice.result.now c.args.rows.now c.loop-i.i _ (omega arith) c.if-not-row_follows.ensures in
    let inv = c.loop-i.invariant.0 in
    let same = c.as_slice.ensures.value in
    let at : misfit c.args.across 0 [] (pieces c.args.rows.now) ≡ Some c.loop-i.i = cc in
    rw c.into.ensures (ap (option_map Text) at)

pub loop-i-preserved : goal.loop-i-preserved
loop-i-preserved c =
    let turn =
    fit_turn c.args.across c.as_slice.result.now (vec_items c.loop-i.signs) (vec_items c.extend_from_slice.new.self) c.args.rows.now c.loop-i.i _
    (omega arith) c.if-not-row_follows.ensures c.as_slice.ensures.value c.in_ok-extend_from_slice.ensures.items
    in
    (turn.0 ∙ c.loop-i.invariant.0, turn.1 ∙ c.loop-i.invariant.1)

pub returns : goal.returns
returns c =
    let over = rows_over c.args.across c.loop-i.i (vec_items c.loop-i.signs) c.args.rows.now c.loop-i.i (omega arith) in
    (sym c.loop-i.invariant.0 ∙ over.0, sym over.1 ∙ c.loop-i.invariant.1)
