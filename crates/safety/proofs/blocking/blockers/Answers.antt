-- The part of memory that is one route is handed on; it lies in memory, and its squares are in the table.
use Rattle.std.proofs.Common.{◌≡◌, ◌+◌, ◌-◌, ◌<◌, ◌≢◌, length, get_or, sym, ◌∙◌, arith, length-set, get_or-set_other, get_or-set_same, below_more}
use Rattle.std.proofs.lemmas.Bool.{and_parts, ltb-true}
use Rattle.memory.specs.Shuttles.{nobody}
use Rattle.safety.proofs.Fitting.{count_most, item}
use Rattle.safety.proofs.Blocked.{all_clear, blocked_by}
use Rattle.safety.proofs.blocking.blockers.Goals as goal

pub stand-requires : goal.stand-requires
stand-requires c = all_clear 4096

pub slice_bounds-met_on-end : goal.slice_bounds-met_on-end
slice_bounds-met_on-end c =
    let listed = c.shuttles-shuttle-items.ensures in (item c.args.fleet.now _ listed.long listed.first c.loop-i.i c.loop-i-test.true).fits.within

pub met_on-requires : goal.met_on-requires
met_on-requires c =
    let listed = c.shuttles-shuttle-items.ensures in
    let s = get_or c.shuttles-shuttle-items.result.now c.loop-i.i nobody in
    let count : s.from + s.left - s.from ≡ s.left = omega arith in
    rw count (item c.args.fleet.now _ listed.long listed.first c.loop-i.i c.loop-i-test.true).fits.squares

pub loop-i-preserved : goal.loop-i-preserved
loop-i-preserved c =
    let inv = c.loop-i.invariant in
    let f = c.args.fleet.now in
    let listed = c.shuttles-shuttle-items.ensures in
    let k = item f _ listed.long listed.first c.loop-i.i c.loop-i-test.true in
    let s = get_or f.shuttles c.loop-i.i nobody in
    let few = count_most f in
    let count : s.from + s.left - s.from ≡ s.left = omega arith in
    let there : c.loop-i.i < length c.loop-i.sets = omega (arith, inv.0, k.there) in (
      length-set c.loop-i.sets _ _ ∙ inv.0,
      below_more _ _ (λ k l j. let ne : k ≢ c.loop-i.i = omega arith in rw get_or-set_other (inv.1 k l j))
          (λ j. rw get_or-set_same (rw (k.is, count) at (c.met_on.ensures j))),
    )

pub invariant_of-result : goal.invariant_of-result
invariant_of-result c =
    let f = c.args.fleet.now in
    let few = c.shuttles-shuttle-items.ensures.long in
    let is = blocked_by f.shuttles f.memory.now f.count c.stand.new.table c.loop-i.sets c.stand.ensures (λ i j l. c.loop-i.invariant.1 i (omega arith) j) in
    record { few = count_most f; below = λ i j l h. ltb-true j _ (and_parts _ _ (sym (is i j l) ∙ h)).0 }

pub returns-clause-blocked : goal.returns-clause-blocked
returns-clause-blocked c =
    let f = c.args.fleet.now in
    let few = c.shuttles-shuttle-items.ensures.long in
    blocked_by f.shuttles f.memory.now f.count c.stand.new.table c.loop-i.sets c.stand.ensures (λ i j l. c.loop-i.invariant.1 i (omega arith) j)
