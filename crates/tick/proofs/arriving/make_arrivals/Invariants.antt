-- The arrivals that are due so far are made.
use Rattle.tick.specs.Coming.{CameIn}
use Rattle.tick.proofs.arriving.make_arrivals.Given as goal

abbrev pub invariant-loop-i : goal.invariant-loop-i
invariant-loop-i l = CameIn l.initial.hall l.hall l.due l.i
