-- What is made of all is told by those that are left, after those before them.
use Rattle.std.proofs.Common.{◌≡◌, [], drop, vec_items, Option}
use Rattle.std.specs.Fn.{FnReturnsAt}
use Rattle.text.specs.Gathered.{gathered, Makes}
use Rattle.text.proofs.gathering.gather.Given as goal

abbrev pub invariant-loop-item : goal.invariant-loop-item
invariant-loop-item g l =
    (f : _ → Option _) → Makes (FnReturnsAt g.F.Fn l.make) f
    → gathered f (vec_items l.all) (drop l.item-index l.items) ≡ gathered f [] l.items
