-- Some direction leads to a square that is one nearer, and the loop stops at the first.
use Rattle.std.proofs.Common.{◌≡◌, ℕ, suc, ◌-◌, ◌*◌, ◌<◌, ◌≤◌, List, length, get_or, Some, sym, subst, arith}
use Rattle.std.proofs.lemmas.List.{get_or_default}
use Rattle.rules.specs.Memory.{field_in}
use Rattle.field.specs.Model.{field_of}
use Rattle.field.specs.Directions.{rank, next}
use Rattle.field.specs.declared.direction.Direction.{Direction}
use Rattle.field.specs.declared.direction.Direction.TheVariants.{Right}
use Rattle.ways.specs.Distances.{distance_in}
use Rattle.ways.proofs.Next.{in_order, rank_at, rank_below, rank_more, next_tells}
use Rattle.ways.proofs.Distances.{NotNearer, nearer, some_nearer, known_inside}
use Rattle.way.specs.declared.leg.Leg.{Leg}
use Rattle.way.specs.Table.{Standing, Nears}
use Rattle.way.proofs.Size.{wide, squares_most}
use Rattle.way.proofs.leg.Leg.nearer.Goals as goal
use Rattle.way.proofs.leg.Leg.nearer.Goals.{in_default-via-in-None-1, in_default-via-in-Some+else-distances-to}

module _ (l : Leg) (ds : List ℕ) (square : ℕ) (long : length ds ≡ 4096) (S : Standing l ds square) where
  inside : square < l.field.across * l.field.down
  unfolding field_in
  inside = known_inside (field_of l.field) l.goal l.last l.start (distance_in ds) S.measured (wide l.field) l.here square S.off S.known S.most

  some : (d : Direction) × (e : ℕ) × (next (field_of l.field) square d ≡ Some e) × (suc (distance_in ds e) ≡ distance_in ds square)
  unfolding field_in
  some = some_nearer (field_of l.field) l.goal l.last l.start (distance_in ds) S.measured (wide l.field) l.here square S.off S.known S.most

  positive : 1 ≤ get_or ds square 0
  positive = let e = some.3 in omega (arith, get_or_default ds square 0 65534 (omega (arith, inside, squares_most l.field)))

  -- what the loop reads where a direction leads
  module _ (d : Direction) (to : ℕ) (at : next (field_of l.field) square d ≡ Some to) where
    below : to < 4096
    unfolding field_in
    below = omega (arith, (next_tells (field_of l.field) (wide l.field) square inside d to at).inside_too, squares_most l.field)

    one : get_or ds to 0 ≡ get_or ds square 0 - 1 → suc (distance_in ds to) ≡ distance_in ds square
    one h =
        omega (arith, positive, get_or_default ds square 0 65534 (omega (arith, inside, squares_most l.field)), get_or_default ds to 0 65534 (omega (arith, below)))

    not_one : (get_or ds to 0 ≡ get_or ds square 0 - 1 → ⊥) → NotNearer (field_of l.field) (distance_in ds) square d
    not_one ne e at' z =
        let same : e ≡ to = cc in
        let far : suc (distance_in ds to) ≡ distance_in ds square = subst (λ (x : ℕ). suc (distance_in ds x) ≡ distance_in ds square) same z in
        ne (omega (arith, get_or_default ds square 0 65534 (omega (arith, inside, squares_most l.field)), get_or_default ds to 0 65534 (omega (arith, below))))

    found :
        (j : ℕ) → rank d ≡ j → ((b : Direction) → rank b < j → NotNearer (field_of l.field) (distance_in ds) square b) → get_or ds to 0 ≡ get_or ds square 0 - 1
        → Nears l ds square to
    unfolding field_in
    found j is none h = (
      nearer (field_of l.field) l.goal l.last l.start (distance_in ds) S.measured (wide l.field) l.here square S.off S.known S.most d to at (one h)
          (λ b lt. none b (omega (arith, is))),
      one h,
    )

pub bounds-distances-to : goal.bounds-distances-to
bounds-distances-to c =
    let long : length c.args.distances.now ≡ 4096 = omega arith in
    below c.args.self.now _ _ long c.requires _ c.in-Some.to (sym c.in-Some.ensures)

pub returns-in-loop-direction : goal.returns-in-loop-direction
returns-in-loop-direction c =
    let long : length c.args.distances.now ≡ 4096 = omega arith in
    found c.args.self.now _ _ long c.requires _ c.in-Some.to (sym c.in-Some.ensures) _ (rank_at _ c.loop-direction-test.true) c.loop-direction.invariant c.if-distances-to.true

pub loop-direction-preserved : goal.loop-direction-preserved
loop-direction-preserved c =
    let long : length c.args.distances.now ≡ 4096 = omega arith in
    let d = get_or in_order c.loop-direction.direction-index Right in
    let here : NotNearer (field_of c.args.self.now.field) (distance_in c.args.distances.now) c.args.square d =
    elim c.in_default.branch [
      | in_default-via-in-None-1 w ↦ λ e at z. absurd (cc)
      | in_default-via-in-Some+else-distances-to w ↦ not_one c.args.self.now _ _ long c.requires d w.in-Some.to (sym w.in-Some.ensures) w.if-distances-to.false
    ] in
    rank_more (NotNearer (field_of c.args.self.now.field) (distance_in c.args.distances.now) c.args.square) _ d (rank_at _ c.loop-direction-test.true) c.loop-direction.invariant here

pub unreachable-requires : goal.unreachable-requires
unreachable-requires c =
    let long : length c.args.distances.now ≡ 4096 = omega arith in
    let s = some c.args.self.now _ _ long c.requires in
    c.loop-direction.invariant s.0 (omega (arith, rank_below s.0)) s.1 s.2 s.3
