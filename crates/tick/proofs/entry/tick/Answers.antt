-- The refusals come in their order; what is not turned away is a tick.
use Rattle.std.proofs.Common.{rules, ◌≡◌, Err, arith}
use Rattle.std.proofs.lemmas.Bool.Decides.{nat_tests}
use Rattle.field.specs.declared.refusal.Refusal.TheVariants.{Field, Memory, Tick}
use Rattle.tick.specs.Tick.{tick_refusal}
use Rattle.tick.proofs.Turn.{answered_refused, made_nobody, made_granted}
use Rattle.tick.proofs.entry.tick.Goals as goal

pub returns-in_err-field-clause-answers : goal.returns-in_err-field-clause-answers
unfolding tick_refusal
returns-in_err-field-clause-answers c =
    let is : c.from_residual.result ≡ Err Field = search rules in
    rw is (answered_refused _ _ _ _ Field (grind (arith, nat_tests, c.in_err-field.ensures)))

pub returns-then-not-is_memory-clause-answers : goal.returns-then-not-is_memory-clause-answers
unfolding tick_refusal
returns-then-not-is_memory-clause-answers c = answered_refused _ _ _ _ Memory (grind (arith, nat_tests, c.in_ok-field.ensures))

pub returns-then-not-are_turns-clause-answers : goal.returns-then-not-are_turns-clause-answers
unfolding tick_refusal
returns-then-not-are_turns-clause-answers c = answered_refused _ _ _ _ Tick (grind (arith, nat_tests, c.in_ok-field.ensures))

pub returns-in-Some-clause-answers : goal.returns-in-Some-clause-answers
unfolding tick_refusal
returns-in-Some-clause-answers c =
    let k = c.count_and_choose-whose.ensures in
    let lent = c.in_ok-field.ensures in
    made_granted c.make_arrivals.new.hall _ _ k.whose _ _ _ c.make_arrivals.ensures k.counts _ lent (grind (arith, nat_tests)) _
    c.in-Some.i c.in-Some.is c.write_step.new.self c.write_step.ensures (search rules)

pub returns-in_default-clause-answers : goal.returns-in_default-clause-answers
unfolding tick_refusal
returns-in_default-clause-answers c =
    let k = c.count_and_choose-whose.ensures in
    let lent = c.in_ok-field.ensures in
    rw c.in_default.is
    (made_nobody c.make_arrivals.new.hall _ _ k.whose _ _ _ c.make_arrivals.ensures k.counts _ lent (grind (arith, nat_tests)) _
    c.in_default.is (search rules))
