-- Whoever is out can go; with each round but the last the set grows.
use Rattle.std.proofs.Common.{◌-◌, ◌<◌}
use Rattle.safety.proofs.Rounds.{AllCan}
use Rattle.safety.proofs.taking.Blockers.all_go.Given as goal

abbrev pub invariant-loop-out : goal.invariant-loop-out
invariant-loop-out l = (l.out < 65536) × AllCan l.self.sets l.self.count l.out

abbrev pub decreases-loop-out : goal.decreases-loop-out
decreases-loop-out l = 65536 - l.out
