-- Each goal is met where one stands or walked to; where one is too far, so is the whole way.
use Rattle.std.proofs.Common.{◌≡◌, ℕ, ◌+◌, ◌-◌, List, length, take, drop, ap, ◌∙◌, arith}
use Rattle.std.proofs.lemmas.List.{take_all, length-drop}
use Rattle.ways.specs.Good.{final}
use Rattle.ways.proofs.Leading.{leading_met, leading_leg, leading_far, leading_end}
use Rattle.way.proofs.legs.lead.Goals as goal
use Rattle.way.proofs.legs.lead.Goals.{then-goal-at+in_ok-drive, else-goal-at}

-- what is left after the first k
rest : (k : ℕ) (xs : List ℕ) → take (length xs - k) (drop k xs) ≡ drop k xs
rest k xs = take_all (length xs - k) (drop k xs) (omega (arith, length-drop k xs))

pub returns-in_err-drive : goal.returns-in_err-drive
returns-in_err-drive c = λ i e.
    let d = c.in_err-drive.ensures in
    rw c.from_residual.ensures (leading_far _ _ _ _ _ _ _ (c.loop-k.invariant.0 i e) c.loop-k-test.true _ (c.is_last.ensures ∙ ap (final _) (rest (c.loop-k.k + 1) c.args.goals.now)) d.0 d.1 256 d.2)

pub loop-k-preserved : goal.loop-k-preserved
loop-k-preserved c =
    elim c.if-goal-at.branch [
      | then-goal-at+in_ok-drive w ↦
          let d = w.in_ok-drive.ensures in
          rw (w.made-is, w.at-is) (
            (λ i e. leading_leg _ _ _ _ _ _ _ (c.loop-k.invariant.0 i e) c.loop-k-test.true _ (w.is_last.ensures ∙ ap (final _) (rest (c.loop-k.k + 1) c.args.goals.now)) d.0 d.1 _ d.2),
            c.requires.inside c.loop-k.k c.loop-k-test.true,
          )
      | else-goal-at w ↦
          rw (w.made-is, w.at-is) (
            (λ i e. leading_met _ _ _ _ _ _ _ (c.loop-k.invariant.0 i e) c.loop-k-test.true w.if-goal-at.false),
            c.loop-k.invariant.1,
          )
    ]

pub returns : goal.returns
returns c = λ i e. leading_end _ _ _ _ _ _ _ (c.loop-k.invariant.0 i e) c.loop-k-test.false
