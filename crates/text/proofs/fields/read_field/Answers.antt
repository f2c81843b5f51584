-- The first fault of the rows is told, and where there is none the field that they show.
use Rattle.std.proofs.Common.{map, sym, ap, ◌∙◌}
use lib.ListN.{length-map}
use Rattle.std.proofs.lemmas.Result.{err_from_is_err_and}
use Rattle.text.specs.Lines.{pieces}
use Rattle.std.specs.Option.{option_map}
use Rattle.field.specs.declared.refusal.Refusal.TheVariants.{Text}
use Rattle.text.specs.Fields.{wall_mark, bays_from}
use Rattle.text.specs.Shown.{Shows}
use Rattle.text.proofs.Reading.{fault_misfit, fault_gap}
use Rattle.text.proofs.fields.read_field.Goals as goal

pub returns-in_err-signs : goal.returns-in_err-signs
returns-in_err-signs c =
    let p = err_from_is_err_and c.from_residual.result c.from_residual.ensures.1 in
    rw (p.1, p.2) (fault_misfit _ (Shows (pieces c.args.rows.now)) (pieces c.args.rows.now) c.across_in-across.result _ c.across_in-across.ensures c.in_err-signs.ensures)

pub returns-in-Some : goal.returns-in-Some
returns-in-Some c =
    let told =
    fault_gap (pieces c.args.rows.now) c.across_in-across.result c.as_slice.result.now _ c.across_in-across.ensures
    c.in_ok-signs.ensures.0 (c.as_slice.ensures.value ∙ c.in_ok-signs.ensures.1) (sym c.first_gap.ensures ∙ c.in-Some.is)
    in
    rw c.into.ensures (ap (option_map Text) told)

pub returns : goal.returns
returns c =
    let are = c.in_ok-signs.ensures.1 in
    record {
      readable =
          fault_gap (pieces c.args.rows.now) c.across_in-across.result c.as_slice.result.now _ c.across_in-across.ensures
          c.in_ok-signs.ensures.0 (c.as_slice.ensures.value ∙ are) (sym c.first_gap.ensures ∙ c.in_default.is);
      is_across = c.across_in-across.ensures;
      is_down = sym (length-map c.args.rows.now (λ r. r.now));
      are_walls = c.in_ok-walls.ensures ∙ ap (map wall_mark) (c.as_slice-2.ensures.value ∙ are);
      are_bays = c.in_ok-bays.ensures ∙ ap (bays_from 16 97) (c.as_slice-3.ensures.value ∙ are);
    }
