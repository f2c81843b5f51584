-- Each sign follows those before it.
use Rattle.std.proofs.Common.{rules, tests, ◌++◌, take, ◌∙◌}
use Rattle.std.proofs.lemmas.Iterator.{YieldsList-from_slice}
use Rattle.std.proofs.lemmas.Iterator.Consumers.{YieldsList-from_enumerate, YieldsList-at}
use Rattle.std.proofs.lemmas.Iterator.Search.{all_from_yields_List}
use Rattle.text.specs.Fields.{sign_fits}
use Rattle.text.proofs.Reading.{signs_are}
use Rattle.text.proofs.fields.signs_follow.Goals as goal

pub returns : goal.returns
returns c =
    all_from_yields_List (λ p. sign_fits (c.args.before.now ++ take p.0 c.args.row.now) p.1) _ _ _ c.all.ensures.ran
    (YieldsList-from_enumerate (YieldsList-at c.enumerate.ensures.source (YieldsList-from_slice c.args.row.now cc)) c.enumerate.ensures.count)
    (λ x b q k. search (rules, tests))
    ∙ signs_are c.args.before.now c.args.row.now
