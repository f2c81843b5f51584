-- One shuttle more is entered into the table.
use Rattle.std.proofs.Common.{get_or, ◌∙◌, arith, length-set}
use Rattle.memory.specs.Shuttles.{nobody}
use Rattle.safety.proofs.Fitting.{count_most, item}
use Rattle.safety.proofs.Shifts.{bit_is}
use Rattle.safety.proofs.Standing.{stands_none, stands_more}
use Rattle.safety.proofs.blocking.stand.Goals as goal

pub loop-j-init : goal.loop-j-init
loop-j-init c = (c.told-table, stands_none _ c.args.table.now c.requires)

pub bounds-table-shuttle : goal.bounds-table-shuttle
bounds-table-shuttle c =
    let listed = c.shuttles-shuttle-items.ensures in (item c.args.fleet.now _ listed.long listed.first c.loop-j.j c.loop-j-test.true).fits.here

pub bounds-table-shuttle-in-loop-j : goal.bounds-table-shuttle-in-loop-j
bounds-table-shuttle-in-loop-j c =
    let listed = c.shuttles-shuttle-items.ensures in (item c.args.fleet.now _ listed.long listed.first c.loop-j.j c.loop-j-test.true).fits.here

pub loop-j-preserved : goal.loop-j-preserved
loop-j-preserved c =
    let f = c.args.fleet.now in
    let listed = c.shuttles-shuttle-items.ensures in
    let k = item f _ listed.long listed.first c.loop-j.j c.loop-j-test.true in
    let here = rw k.is at k.fits.here in
    let long = c.loop-j.invariant.0 in
    rw (k.is, bit_is c.loop-j.j f.count k.there (count_most f)) (
      length-set c.loop-j.table _ _ ∙ long,
      stands_more (λ k. (get_or f.shuttles k nobody).at) c.loop-j.j c.loop-j.table (omega arith) c.loop-j.invariant.1,
    )
