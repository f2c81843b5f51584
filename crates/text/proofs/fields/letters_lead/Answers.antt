-- All letters are led.
use Rattle.std.proofs.Common.{rules, tests, ◌∙◌}
use Rattle.std.proofs.lemmas.Iterator.{YieldsList-from_slice}
use Rattle.std.proofs.lemmas.Iterator.Search.{all_from_yields_List}
use Rattle.text.specs.Fields.{is_led}
use Rattle.rules.proofs.Words.{every_is}
use Rattle.text.proofs.fields.letters_lead.Goals as goal

pub returns : goal.returns
returns c =
    all_from_yields_List (is_led c.args.all.now) _ _ _ c.all.ensures.ran (YieldsList-from_slice c.args.row.now cc) (λ x b q k. search (rules, tests))
    ∙ every_is (is_led c.args.all.now) c.args.row.now
