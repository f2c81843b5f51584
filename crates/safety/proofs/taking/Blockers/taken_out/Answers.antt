-- One shuttle more.
use Rattle.std.proofs.Common.{◌≡◌, ◌^◌, ◌<◌, true, false, eqb, get_or, take, refl, add-one, arith}
use lib.Bits.{bit_or, or_lt}
use Rattle.std.proofs.lemmas.List.{length-take, get_or-take}
use Rattle.std.proofs.lemmas.Bool.{eq-eqb, ne_eqb}
use Rattle.safety.specs.Masks.{round, with_free}
use Rattle.safety.proofs.Shifts.{bit_is, bit_small}
use Rattle.safety.proofs.taking.Blockers.taken_out.Goals as goal
use Rattle.safety.proofs.taking.Blockers.taken_out.Goals.{then-blockers-with, else-blockers-with}

pub loop-i-init : goal.loop-i-init
unfolding round
loop-i-init c = (omega arith, refl)

pub loop-i-preserved : goal.loop-i-preserved
unfolding round with_free
loop-i-preserved c =
    let i = c.loop-i.i in
    let out = c.loop-i.out in
    let f = c.args.self.now in
    let block = get_or f.sets i 0 in
    let l : i < f.count = omega (arith, simp length-take at c.loop-i-test.true) in
    let here : get_or (take f.count f.sets) i 0 ≡ block = get_or-take f.count f.sets i 0 l in
    let bit = bit_is i f.count l f.few in
    let w = bit_or out (2 ^ i) in
    let small : w < 2 ^ 16 = or_lt 16 out (2 ^ i) c.loop-i.invariant.0 (bit_small i f.count l f.few) in
    let is = c.loop-i.invariant.1 in
    elim c.if-blockers-with.branch [
      | then-blockers-with t ↦
          let e : eqb (bit_or block w) w ≡ true = eq-eqb _ _ (rw (here, bit) at t.if-blockers-with.true) in
          rw (t.out-is, bit) (small, rw (add-one, ← is, e))
      | else-blockers-with t ↦
          let e : eqb (bit_or block w) w ≡ false = ne_eqb _ _ (rw (here, bit) at t.if-blockers-with.false) in
          rw t.out-is (c.loop-i.invariant.0, rw (add-one, ← is, e))
    ]
