-- At first nothing is marked; each turn marks one square, or shuts one bay.
use Rattle.std.proofs.Common.{◌≡◌, ℕ, List, cond, sym, subst, ⊎_elim, replicate, refl, arith}
use Rattle.std.proofs.lemmas.List.{get_or-replicate, get_or_past, length-replicate}
use Rattle.std.proofs.lemmas.Bool.{cases_lt}
use Rattle.std.proofs.lemmas.Bool.Decides.{nat_tests}
use Rattle.rules.specs.Field.{free_square}
use Rattle.rules.specs.Memory.{field_in}
use Rattle.field.specs.Model.{field_of}
use Rattle.field.proofs.Facts.{long}
use Rattle.ways.specs.Distances.{distance_in}
use Rattle.ways.proofs.Marks.{free_none, free_more, open_none, open_more, open_all}
use Rattle.way.proofs.Size.{walls_most, mark_free, bay_below}
use Rattle.way.proofs.ground.open_ground.Goals as goal
use Rattle.way.proofs.ground.open_ground.Goals.{then-mark-eq0, else-mark-eq0}

filled : (n x : ℕ) → distance_in (replicate n 65534) x ≡ 65534
filled n x = ⊎_elim (λ l. get_or-replicate n x 65534 65534 l) (λ l. get_or_past (replicate n 65534) x 65534 (omega (arith, length-replicate {A = ℕ} n 65534))) (cases_lt x n)

pub loop-square-init : goal.loop-square-init
loop-square-init c = free_none _ _ (subst (λ (t : List ℕ). (x : ℕ) → distance_in t x ≡ 65534) (sym c.requires) (filled 4096))

pub bounds-table-square : goal.bounds-table-square
bounds-table-square c = omega (arith, c.loop-square-test.true, walls_most c.args.field.now)

pub loop-square-preserved : goal.loop-square-preserved
loop-square-preserved c =
    let v : c.if-mark-eq0.table ≡ cond (free_square (field_of c.args.field.now) c.loop-square.square) 65535 65534 =
    elim c.if-mark-eq0.branch [
      | then-mark-eq0 w ↦ let m = mark_free c.args.field.now c.loop-square.square c.loop-square-test.true in let h = w.if-mark-eq0.true in let e = w.table-is in grind (arith, nat_tests)
      | else-mark-eq0 w ↦ let m = mark_free c.args.field.now c.loop-square.square c.loop-square-test.true in let h = w.if-mark-eq0.false in let e = w.table-is in grind (arith, nat_tests)
    ] in
    free_more _ _ _ _ (omega (arith, c.loop-square-test.true, walls_most c.args.field.now)) v c.loop-square.invariant

pub loop-bay-init : goal.loop-bay-init
unfolding field_in
loop-bay-init c = open_none _ _ _ (omega (arith, c.loop-square-test.false, c.loop-square.auto.square-end, long c.args.field.now)) c.loop-square.invariant

pub bounds-table-bay : goal.bounds-table-bay
bounds-table-bay c = bay_below c.args.field.now c.loop-bay.bay-index c.loop-bay-test.true

pub loop-bay-preserved : goal.loop-bay-preserved
unfolding field_in
loop-bay-preserved c = open_more _ _ _ _ refl (omega (arith, bay_below c.args.field.now c.loop-bay.bay-index c.loop-bay-test.true)) c.loop-bay.invariant

pub returns : goal.returns
unfolding field_in
returns c = open_all _ _ _ (omega (arith, c.loop-bay-test.false, c.loop-bay.auto.bay-index-end)) c.loop-bay.invariant
