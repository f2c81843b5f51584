-- The round so far.
use Rattle.std.proofs.Common.{◌≡◌, ◌<◌}
use Rattle.safety.specs.Masks.{round}
use Rattle.safety.proofs.taking.Blockers.taken_out.Given as goal

abbrev pub invariant-loop-i : goal.invariant-loop-i
invariant-loop-i l = (l.out < 65536) × (l.out ≡ round l.self.sets l.i l.fn.out)
