-- The distances bound the leg that was walked along them.
use Rattle.std.proofs.Common.{arith}
use Rattle.ways.specs.Distances.{capped, distance_in}
use Rattle.ways.proofs.Distances.{distances_bound}
use Rattle.way.proofs.leg.Leg.drive.Goals as goal

pub returns-then-distance-remaining_capacity : goal.returns-then-distance-remaining_capacity
returns-then-distance-remaining_capacity c =
    let m = c.in_ok-distance.ensures in (
      capped (distance_in c.measure.new.distances) c.args.self.now.start,
      distances_bound _ _ _ _ _ m.0,
      omega (arith, m.1, c.remaining_capacity.ensures),
    )
