-- The queue starts with the goal alone, and is expanded until the start is known or none is left in it.
use Rattle.std.proofs.Common.{◌≡◌, length, inl, inr, add-one, ◌∙◌, arith}
use Rattle.std.proofs.lemmas.Bool.{eq-eqb, eqb-true}
use Rattle.ways.proofs.Ground.{far_read}
use Rattle.ways.proofs.Prepared.{prepared_spread, prepared_room, spread_distances}
use Rattle.way.proofs.Size.{start_below, goal_below}
use Rattle.way.proofs.leg.Leg.spread.Goals as goal
use Rattle.way.proofs.leg.Leg.spread.Goals.{then-head-len-via-then-head-len, then-head-len-via-else-head-len+then-distances-self}

pub loop-head-init : goal.loop-head-init
loop-head-init c =
    let long : length c.args.distances.now ≡ 4096 = omega arith in
    rw (c.push.ensures.items, c.new-queue.ensures) (prepared_spread _ _ _ _ _ c.requires, prepared_room _ _ _ _ _ c.requires long (goal_below c.args.self.now))

pub bounds-distances-self : goal.bounds-distances-self
bounds-distances-self c = start_below c.args.self.now

pub loop-head-preserved : goal.loop-head-preserved
loop-head-preserved c = (rw add-one c.expand.ensures.spreading, c.expand.ensures.room)

pub returns-then-head-len : goal.returns-then-head-len
returns-then-head-len c =
    spread_distances _ _ _ _ _ _ _ c.loop-head.invariant.0
    (elim c.then-head-len.branch [
      | then-head-len-via-then-head-len w ↦ inl (omega (arith, w.if-head-len.true, c.len.ensures.value))
      | then-head-len-via-else-head-len+then-distances-self w ↦
          inr (λ z. w.if-distances-self.true (eqb-true _ _ (far_read c.loop-head.distances c.args.self.now.start ∙ eq-eqb _ _ z)))
    ])
