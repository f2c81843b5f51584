-- The goal is a square of the field.
use Rattle.way.proofs.Size.{goal_below}
use Rattle.way.proofs.leg.Leg.is_open.Goals as goal

pub bounds-self-self : goal.bounds-self-self
bounds-self-self c = goal_below c.args.self.now
