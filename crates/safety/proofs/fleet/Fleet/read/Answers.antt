-- All shuttles are read, and nobody past them.
use Rattle.std.proofs.Common.{sym, arith}
use Rattle.std.proofs.lemmas.List.{length-take-le}
use Rattle.rules.proofs.Memory.{accepted_memory}
use Rattle.field.proofs.Facts.{facts}
use Rattle.safety.proofs.Fitting.{read_fits, read_is}
use Rattle.safety.proofs.fleet.Fleet.read.Goals as goal

pub slice_bounds-shuttles-end : goal.slice_bounds-shuttles-end
slice_bounds-shuttles-end c = (facts c.args.field.now).few

pub slice_bounds-shuttle-items-end : goal.slice_bounds-shuttle-items-end
slice_bounds-shuttle-items-end c = sym (length-take-le _ _ (facts c.args.field.now).few)

pub loop-i-init : goal.loop-i-init
loop-i-init c = (length-take-le _ _ (facts c.args.field.now).few, λ k l. absurd (omega arith))

pub invariant_of-result : goal.invariant_of-result
invariant_of-result c =
    record { fits = read_fits c.args.field.now c.args.memory.now c.requires c.loop-i.shuttle-items c.loop-i.invariant.0 (λ k l. c.loop-i.invariant.1 k (omega arith)) }

pub returns-clause-reads : goal.returns-clause-reads
returns-clause-reads c = read_is c.args.field.now c.args.memory.now c.requires c.loop-i.shuttle-items c.loop-i.invariant.0 (λ k l. c.loop-i.invariant.1 k (omega arith))

pub read-requires : goal.read-requires
read-requires c =
    let all = accepted_memory _ _ c.requires in
    let long = all.long in
    let few = (facts c.args.field.now).few in
    record { there = omega arith; few = omega arith }
