-- A goal that may not be entered is out of reach; else the distances bound the leg.
use Rattle.std.proofs.Common.{◌≡◌, ℕ, Bool, true, false, cond, eqb, List, length, set, not, sym, refl, ap, ◌∙◌, arith}
use Rattle.std.proofs.lemmas.List.{get_or_default, get_or-set_same, get_or-set_other, length-set}
use Rattle.std.proofs.lemmas.Bool.{cond-false, ne_eqb, eqb-true, both_ways}
use Rattle.std.specs.Bool.{then_some}
use Rattle.field.specs.Model.{field_of}
use Rattle.ways.specs.Good.{enter}
use Rattle.ways.specs.Distances.{capped, distance_in}
use Rattle.ways.proofs.Distances.{distances_bound}
use Rattle.ways.proofs.Ground.{ground_prepared}
use Rattle.ways.proofs.Prepared.{shut_bound}
use Rattle.way.specs.declared.leg.Leg.{Leg}
use Rattle.way.specs.Table.{Ready, Measured, Bounded, Distance}
use Rattle.way.proofs.Size.{start_below, goal_below}
use Rattle.way.proofs.leg.Leg.measure.Goals as goal

out_of_reach : (l : Leg) → (enter (field_of l.field) l.goal l.last l.goal ≡ true → ⊥) → Bounded l 65535
out_of_reach l s = (
  λ x. cond (eqb x l.goal) 0 65535,
  shut_bound (field_of l.field) l.goal l.last l.start 65535 s,
  cond-false (eqb l.start l.goal) 0 65535 (ne_eqb l.start l.goal l.apart),
)

-- the table after the two writes
written : (l : Leg) (table : List ℕ) → length table ≡ 4096 → table ≡ l.ground.now → enter (field_of l.field) l.goal l.last l.goal ≡ true
    → Ready l (set (set table l.start 65535) l.goal 0)
written l table long same e =
    ground_prepared (field_of l.field) l.goal l.last l.start l.ground.now (set (set table l.start 65535) l.goal 0) l.over e l.apart
    (get_or-set_same (set table l.start 65535) l.goal 0 65534 (omega (arith, goal_below l, length-set table l.start 65535)))
    (get_or-set_other (set table l.start 65535) l.goal l.start 0 65534 l.apart ∙ get_or-set_same table l.start 65535 65534 (omega (arith, start_below l)))
    (λ x ng ns. get_or-set_other (set table l.start 65535) l.goal x 0 65534 ng ∙ (get_or-set_other table l.start x 65535 65534 ns ∙ ap (λ (t : List ℕ). distance_in t x) same))

-- what is answered, by whether the start is known
answered : (l : Leg) (ds : List ℕ) → Measured l ds → (far : Bool) (x : ℕ) → distance_in ds l.start ≡ x → eqb x 65535 ≡ far
    → Distance l ds (then_some (not far) x)
answered l ds m true x e far =
    let is : x ≡ 65535 = eqb-true x 65535 far in
    (capped (distance_in ds) l.start, distances_bound (field_of l.field) l.goal l.last l.start (distance_in ds) m, omega (arith, e))
answered l ds m false x e far = (m, e)

pub returns-then-not-is_open : goal.returns-then-not-is_open
returns-then-not-is_open c = out_of_reach c.args.self.now (both_ways _ (sym c.if-not-is_open.ensures))

pub bounds-distances-self : goal.bounds-distances-self
bounds-distances-self c = start_below c.args.self.now

pub bounds-distances-self-2 : goal.bounds-distances-self-2
bounds-distances-self-2 c = goal_below c.args.self.now

pub spread-requires : goal.spread-requires
spread-requires c =
    let long : length c.args.distances.now ≡ 4096 = omega arith in
    written c.args.self.now _ long c.requires (sym c.if-not-is_open.ensures)

pub bounds-distances-self-3 : goal.bounds-distances-self-3
bounds-distances-self-3 c = start_below c.args.self.now

pub returns : goal.returns
returns c =
    let long : length c.spread.new.distances ≡ 4096 = c.spread.array_long in
    let read = get_or_default c.spread.new.distances c.args.self.now.start 65534 0 (omega (arith, start_below c.args.self.now)) in
    rw c.then_some.ensures (answered c.args.self.now c.spread.new.distances c.spread.ensures _ _ read refl)
