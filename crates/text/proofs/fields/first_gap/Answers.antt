-- The first row with a gap.
use Rattle.std.proofs.Common.{rules, tests, not, ◌∙◌}
use Rattle.std.proofs.lemmas.Iterator.{YieldsList-from_slice}
use Rattle.std.proofs.lemmas.Iterator.Search.{position_from_yields_List}
use Rattle.rules.specs.Tests.{every}
use Rattle.text.specs.Fields.{is_led}
use Rattle.text.proofs.Reading.{gap_is}
use Rattle.text.proofs.fields.first_gap.Goals as goal

pub returns : goal.returns
returns c =
    position_from_yields_List (λ r. not (every (is_led c.args.all.now) r.now)) _ _ _ c.position.ensures.ran
    (YieldsList-from_slice c.args.rows.now cc) (λ x b q k. search (rules, tests))
    ∙ gap_is c.args.all.now c.args.rows.now
