-- One arrival more is made, if it is due.
use Rattle.std.proofs.Common.{◌+◌, sym, subst}
use Rattle.memory.specs.declared.hall.Hall.{Hall}
use Rattle.tick.specs.Coming.{CameIn}
use Rattle.tick.proofs.Coming.{came_none, came_due, came_not}
use Rattle.tick.proofs.arriving.make_arrivals.Goals as goal
use Rattle.tick.proofs.arriving.make_arrivals.Goals.{then-mark-eq1, else-mark-eq1}

pub loop-i-init : goal.loop-i-init
loop-i-init c = came_none _ _

pub loop-i-preserved : goal.loop-i-preserved
loop-i-preserved c =
    let After = λ (h : Hall). CameIn c.args.hall.now h c.args.due.now (c.loop-i.i + 1) in
    elim c.if-mark-eq1.branch [
      | then-mark-eq1 w ↦ subst After (sym w.hall-is) (came_due _ _ _ _ c.loop-i.invariant _ _ w.if-mark-eq1.true w.take_arrival-comes.ensures)
      | else-mark-eq1 w ↦ subst After (sym w.hall-is) (came_not _ _ _ _ c.loop-i.invariant w.if-mark-eq1.false)
    ]
