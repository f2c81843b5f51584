-- The loop stops at the first step that may not be made.
use Rattle.std.proofs.Common.{sym, refl, ◌∙◌, arith}
use Rattle.rules.specs.Memory.{field_in}
use Rattle.route.proofs.Judging.{judging_more, judged_wrong, judged_right, judged_outside, last_step}
use Rattle.route.proofs.steps.judge.Goals as goal

pub returns-then-not-may_step : goal.returns-then-not-may_step
returns-then-not-may_step c =
    let r = c.args.route.now in
    let k = c.loop-k.k in
    let wrong = sym (c.may_step.ensures c.args.shuttle _ refl (last_step r k c.loop-k-test.true)) ∙ c.if-not-may_step.true in
    let both = judged_wrong _ _ _ c.loop-k.at k r c.loop-k-test.true wrong c.loop-k.invariant in
    record { judged = sym both.0; right = sym both.1 }

pub loop-k-preserved : goal.loop-k-preserved
loop-k-preserved c =
    let r = c.args.route.now in
    let k = c.loop-k.k in
    let ok = sym (c.may_step.ensures c.args.shuttle _ refl (last_step r k c.loop-k-test.true)) ∙ c.if-not-may_step.false in
    judging_more _ _ _ c.loop-k.at k r c.loop-k-test.true ok c.loop-k.invariant

pub returns-then-at-home : goal.returns-then-at-home
unfolding field_in
returns-then-at-home c =
    let both = judged_right _ _ _ c.loop-k.at c.loop-k.k c.args.route.now (omega arith) c.if-at-home.true c.loop-k.invariant in
    record { judged = sym both.0; right = sym both.1 }

pub returns-else-at-home : goal.returns-else-at-home
unfolding field_in
returns-else-at-home c =
    let both = judged_outside _ _ _ c.loop-k.at c.loop-k.k c.args.route.now (omega arith) c.if-at-home.false c.loop-k.invariant in
    record { judged = sym both.0; right = sym both.1 }
