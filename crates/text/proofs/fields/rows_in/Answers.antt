-- The first empty line, or all lines.
use Rattle.std.proofs.Common.{rules, tests, eqb, length, unwrap_or, ap, ◌∙◌}
use Rattle.std.proofs.lemmas.Iterator.{YieldsList-from_slice}
use Rattle.std.proofs.lemmas.Iterator.Search.{position_from_yields_List}
use Rattle.text.proofs.Reading.{row_count_is}
use Rattle.text.proofs.fields.rows_in.Goals as goal

pub returns-clause-value : goal.returns-clause-value
returns-clause-value c =
    let first =
    position_from_yields_List (λ l. eqb (length l.now) 0) _ _ _ c.position.ensures.ran
    (YieldsList-from_slice c.args.lines.now cc) (λ x b q k. search (rules, tests)) in
    c.unwrap_or.ensures ∙ ap (λ o. unwrap_or o (length c.args.lines.now)) first ∙ row_count_is c.args.lines.now
