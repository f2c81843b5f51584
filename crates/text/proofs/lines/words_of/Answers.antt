-- The library gives the words.
use Rattle.std.proofs.Common.{rules, tests, ◌≡◌, IfOk, subst}
use Rattle.std.proofs.lemmas.Iterator.Consumers.{map_from_collect, YieldsList-from_filter, YieldsList-at}
use Rattle.std.proofs.lemmas.Iterator.Splits.{YieldsList-from_slice_split}
use Rattle.text.proofs.Cutting.{some, is_blank, words_are}
use Rattle.text.specs.Lines.{pieces}
use Rattle.text.proofs.lines.words_of.Goals as goal

pub returns : goal.returns
returns c =
    subst (λ ws. IfOk c.collect.result (λ v. pieces v.items ≡ ws)) (words_are c.args.line.now)
    (map_from_collect _ c.collect.ensures.ran
    (YieldsList-from_filter _ some
    (YieldsList-at c.filter.ensures.source
    (YieldsList-from_slice_split _ is_blank c.args.line.now c.split.ensures.rest c.split.ensures.done c.split.ensures.closure (λ x b q k. search (rules, tests))))
    c.filter.ensures.closure (λ x b q k. search (rules, tests))))
