-- Each square that is left is looked at.
use Rattle.std.proofs.Common.{eqb, sym, ◌∙◌, rules}
use Rattle.std.proofs.lemmas.Iterator.{YieldsList-from_slice}
use Rattle.std.proofs.lemmas.Iterator.Search.{all_from_yields_List}
use borrow.Author.Tests.{tests}
use Rattle.ways.proofs.Good.{final_is}
use Rattle.way.proofs.legs.is_last.Goals as goal

pub returns : goal.returns
returns c =
    all_from_yields_List (λ next. eqb next c.args.goal) _ _ _ c.all.ensures.ran (YieldsList-from_slice c.args.left.now cc) (λ x b q k. search (rules, tests))
    ∙ sym (final_is c.args.goal c.args.left.now)
