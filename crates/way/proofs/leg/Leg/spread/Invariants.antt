-- What holds while distances spread.
use Rattle.std.proofs.Common.{◌+◌, ◌≤◌, length}
use Rattle.ways.specs.Distances.{unknown}
use Rattle.way.specs.Table.{Spreads}
use Rattle.way.proofs.leg.Leg.spread.Given as goal

abbrev pub invariant-loop-head : goal.invariant-loop-head
invariant-loop-head l = Spreads l.self l.distances l.queue.items l.head × (length l.queue.items + unknown l.distances ≤ 4096)
