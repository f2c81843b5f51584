-- The largest number is a square exactly if each is.
use Rattle.std.proofs.Common.{rules, ltb, max, ap, ◌∙◌}
use borrow.Author.Tests.{tests}
use Rattle.std.proofs.lemmas.Bool.{lt-ltb}
use Rattle.std.proofs.lemmas.Iterator.{YieldsList-from_slice}
use Rattle.std.proofs.lemmas.Iterator.Consumers.{fold_from_yields_List}
use Rattle.rules.proofs.Tests.{ltb_max}
use Rattle.rules.proofs.Words.{fold_largest}
use Rattle.field.proofs.largest.are_squares.Goals as goal

pub returns : goal.returns
returns c =
    let n = c.args.squares in
    let some = lt-ltb 0 n c.requires in
    let most = fold_from_yields_List _ max 0 c.fold.result c.fold.ensures.ran (YieldsList-from_slice c.args.part.now cc) (λ a x b q k. search (rules, tests)) in
    ap (λ x. ltb x n) most ∙ fold_largest (λ x. ltb x n) (ltb_max n) 0 c.args.part.now ∙ rw some
