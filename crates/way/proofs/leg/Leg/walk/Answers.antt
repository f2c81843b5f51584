-- Each turn goes one nearer, until the walk is at its goal.
use Rattle.ways.proofs.Walk.{walk_end}
use Rattle.way.proofs.leg.Leg.walk.Goals as goal

pub returns : goal.returns
returns c = walk_end _ _ _ _ _ _ _ _ c.loop-square.invariant.0 c.loop-square-test.false
