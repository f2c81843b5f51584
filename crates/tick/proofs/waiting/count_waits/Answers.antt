-- There are at most sixteen.
use Rattle.std.proofs.Common.{arith}
use Rattle.safety.proofs.Fitting.{count_most}
use Rattle.tick.proofs.waiting.count_waits.Goals as goal

pub bounds-fleet-i : goal.bounds-fleet-i
bounds-fleet-i c = let few = count_most c.args.fleet.now in omega arith
