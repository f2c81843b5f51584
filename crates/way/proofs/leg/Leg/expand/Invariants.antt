-- Of the squares beside the first of the queue those of the directions so far are known.
use Rattle.std.proofs.Common.{◌≡◌, suc}
use Rattle.field.specs.Model.{field_of}
use Rattle.ways.specs.Distances.{distance_in}
use Rattle.ways.proofs.Expand.{Expanding}
use Rattle.way.proofs.leg.Leg.expand.Given as goal

abbrev pub invariant-loop-direction : goal.invariant-loop-direction
invariant-loop-direction l =
    Expanding (field_of l.self.field) l.self.goal l.self.last l.self.start l.square l.distances l.queue.items l.head l.direction-index
    × (l.next ≡ suc (distance_in l.distances l.square))
