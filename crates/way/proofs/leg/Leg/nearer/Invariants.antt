-- None of the directions so far leads to a square that is one nearer.
use Rattle.std.proofs.Common.{◌<◌}
use Rattle.field.specs.Model.{field_of}
use Rattle.field.specs.Directions.{rank}
use Rattle.field.specs.declared.direction.Direction.{Direction}
use Rattle.ways.specs.Distances.{distance_in}
use Rattle.ways.proofs.Distances.{NotNearer}
use Rattle.way.proofs.leg.Leg.nearer.Given as goal

abbrev pub invariant-loop-direction : goal.invariant-loop-direction
invariant-loop-direction l =
    (d : Direction) → rank d < l.direction-index → NotNearer (field_of l.self.field) (distance_in l.distances) l.square d
