-- A round that takes out nobody leaves exactly those that cannot go.
use Rattle.std.proofs.Common.{◌≡◌, true, not, sym, ap, ◌∙◌, arith}
use Rattle.std.proofs.lemmas.Bool.{both_ways, lt-ltb, eqb-true, eq-eqb, or_left, ltb-true, not-false}
use Rattle.agents.proofs.Taking.{set_stuck}
use Rattle.safety.specs.Masks.{has}
use Rattle.safety.proofs.Masks.{has_or, or_within, has_nothing}
use Rattle.safety.proofs.Rounds.{round_more, round_can, round_stuck}
use Rattle.safety.proofs.taking.Blockers.all_go.Goals as goal

pub loop-out-init : goal.loop-out-init
loop-out-init c = (omega arith, λ j l h. absurd (both_ways _ (has_nothing j) h))

pub returns-then-next-out : goal.returns-then-next-out
returns-then-next-out c =
    let bs = c.args.self.now.sets in
    let n = c.args.self.now.count in
    let out = c.loop-out.out in
    let all = c.everybody.result in
    let stuck = round_stuck bs n c.args.self.now.below out (sym c.taken_out-next.ensures ∙ c.if-next-out.true) in (
      λ h i l.
          let there : has all i ≡ true = c.everybody.ensures i ∙ lt-ltb i n l in
          let is_out : has out i ≡ true = ap (λ t. has t i) (sym (eqb-true _ _ h)) ∙ has_or all out i ∙ or_left _ _ there in
          c.loop-out.invariant.1 i l is_out,
      λ go. eq-eqb _ _ (or_within 16 all out c.everybody.type_inv (λ j m h.
          not-false _ (set_stuck n _ _ (λ i. not (has out i)) stuck (go j (ltb-true j n (sym (c.everybody.ensures j) ∙ h)))))),
    )

pub loop-out-smaller : goal.loop-out-smaller
loop-out-smaller c =
    let more = round_more c.args.self.now.sets c.args.self.now.count c.loop-out.out in
    let is = c.taken_out-next.ensures in
    let ok = c.taken_out-next.type_inv in omega arith

pub loop-out-preserved : goal.loop-out-preserved
loop-out-preserved c = (
  c.taken_out-next.type_inv,
  rw c.taken_out-next.ensures (round_can c.args.self.now.sets c.args.self.now.count c.args.self.now.count c.loop-out.out (omega arith) c.loop-out.invariant.1),
)
