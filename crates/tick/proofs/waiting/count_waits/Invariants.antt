-- The waits so far are counted.
use Rattle.std.proofs.Common.{◌≡◌}
use Rattle.turns.specs.Tick.{counted_to}
use Rattle.safety.specs.Fleets.{fleet_of}
use Rattle.tick.proofs.waiting.count_waits.Given as goal

abbrev pub invariant-loop-i : goal.invariant-loop-i
invariant-loop-i l = l.waits ≡ counted_to (fleet_of l.fleet.shuttles l.fleet.memory.now) l.initial.waits l.i
