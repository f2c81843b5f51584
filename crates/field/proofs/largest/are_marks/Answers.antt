-- The largest mark is at most 1 exactly if each is.
use Rattle.std.proofs.Common.{rules, leb, max, ap, ◌∙◌}
use borrow.Author.Tests.{tests}
use Rattle.std.proofs.lemmas.Iterator.{YieldsList-from_slice}
use Rattle.std.proofs.lemmas.Iterator.Consumers.{fold_from_yields_List}
use Rattle.rules.proofs.Tests.{leb_max}
use Rattle.rules.proofs.Words.{fold_largest}
use Rattle.field.proofs.largest.are_marks.Goals as goal

pub returns : goal.returns
returns c =
    let most = fold_from_yields_List _ max _ c.fold.result c.fold.ensures.ran (YieldsList-from_slice c.args.walls.now cc) (λ a x b q k. search (rules, tests)) in
    ap (λ x. leb x 1) most ∙ fold_largest (λ w. leb w 1) (leb_max 1) _ c.args.walls.now
