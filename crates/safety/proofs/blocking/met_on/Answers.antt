-- One square more is walked over.
use Rattle.std.proofs.Common.{ltb, arith}
use Rattle.std.proofs.lemmas.Bool.{ltb-true}
use Rattle.std.proofs.lemmas.Bool.Decides.{nat_tests}
use Rattle.rules.proofs.Tests.{every_tells}
use Rattle.safety.proofs.Masks.{has_nothing}
use Rattle.safety.proofs.Standing.{met_more, met_all}
use Rattle.safety.proofs.blocking.met_on.Goals as goal

pub loop-c-init : goal.loop-c-init
loop-c-init c = λ j. let z = has_nothing j in grind (arith, nat_tests)

pub bounds-table-c : goal.bounds-table-c
bounds-table-c c =
    let e = ltb-true _ _ (every_tells (λ c. ltb c 4096) c.args.route.now c.requires c.loop-c.c-index 0 (omega arith)) in omega arith

pub loop-c-preserved : goal.loop-c-preserved
loop-c-preserved c = λ j. met_more c.args.table.now c.args.route.now c.loop-c.c-index c.loop-c.all j _ (omega arith) (c.loop-c.invariant j)

pub returns : goal.returns
returns c = λ j. met_all c.args.table.now c.args.route.now c.loop-c.c-index c.loop-c.all j _ (omega arith) (c.loop-c.invariant j)
