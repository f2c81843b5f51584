-- The walk so far; each turn is one nearer.
use Rattle.std.proofs.Common.{◌<◌, ◌≤◌}
use Rattle.field.specs.Model.{field_of}
use Rattle.ways.specs.Distances.{capped, distance_in}
use Rattle.ways.proofs.Walk.{Walking}
use Rattle.way.proofs.leg.Leg.walk.Given as goal

abbrev pub invariant-loop-square : goal.invariant-loop-square
invariant-loop-square l =
    Walking (field_of l.self.field) l.self.goal l.self.last (capped (distance_in l.distances) l.self.start) l.self.start l.square l.initial.made.items l.made.items
    × (distance_in l.distances l.square < 65534) × (distance_in l.distances l.square ≤ distance_in l.distances l.self.start)

abbrev pub decreases-loop-square : goal.decreases-loop-square
decreases-loop-square l = distance_in l.distances l.square
