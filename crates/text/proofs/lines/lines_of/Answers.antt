-- The library gives the lines.
use Rattle.std.proofs.lemmas.Iterator.Consumers.{map_from_collect, YieldsList-from_first}
use Rattle.text.proofs.Cutting.{lines_are}
use Rattle.text.proofs.lines.lines_of.Goals as goal

pub returns : goal.returns
returns c = map_from_collect _ c.collect.ensures.ran (YieldsList-from_first (λ x. x.now) (λ rest. rest) _ (cc (lines_are c.args.text.now)))
