-- The first of the queue is known and may be entered, since the start is not known; what each direction leads to is passed over or gets its distance.
use Rattle.std.proofs.Common.{◌≡◌, ℕ, suc, ◌+◌, ◌<◌, List, [], ◌∷◌, ◌++◌, length, get_or, set, Some, None, sym, ap, ◌∙◌, arith}
use Rattle.std.proofs.lemmas.List.{get_or_default}
use Rattle.rules.specs.Memory.{field_in}
use Rattle.field.specs.Model.{field_of}
use Rattle.field.specs.Directions.{next}
use Rattle.field.specs.declared.direction.Direction.{Direction}
use Rattle.field.specs.declared.direction.Direction.TheVariants.{Right}
use Rattle.ways.specs.Distances.{distance_in}
use Rattle.ways.proofs.Next.{in_order, rank_at}
use Rattle.ways.proofs.Expand.{Expanding, expand_start, expand_pass, expand_put, expand_done, expand_inside, put_long, put_kept}
use Rattle.way.specs.declared.leg.Leg.{Leg}
use Rattle.way.specs.Table.{Waiting}
use Rattle.way.proofs.Size.{wide, squares_most}
use Rattle.way.proofs.leg.Leg.expand.Goals as goal
use Rattle.way.proofs.leg.Leg.expand.Goals.{in-Some+then-distances-to, in_default, in_default-via-in-None-1, in_default-via-in-Some+else-distances-to}

-- what stands at this place of the queue is a square of the field, whose distance is known
module _ (l : Leg) (ds qs : List ℕ) (head : ℕ) (long : length ds ≡ 4096) (W : Waiting l ds qs head) where
  begun : Expanding (field_of l.field) l.goal l.last l.start (get_or qs head 0) ds qs head 0
  begun = expand_start (field_of l.field) l.goal l.last l.start ds qs head long W.left W.room W.spreading W.far

  read : get_or ds (get_or qs head 0) 0 + 1 ≡ suc (distance_in ds (get_or qs head 0))
  unfolding field_in
  read =
      let inside = expand_inside (field_of l.field) l.goal l.last l.start (get_or qs head 0) ds qs head 0 begun in
      omega (arith, get_or_default ds (get_or qs head 0) 0 65534 (omega (arith, inside, squares_most l.field)))

-- a turn of the loop, whose direction leads past the edge or to a square
module _ (l : Leg) (square head j n : ℕ) (ds qs : List ℕ) (lj : j < 4)
    (E : Expanding (field_of l.field) l.goal l.last l.start square ds qs head j × (n ≡ suc (distance_in ds square))) where
  abbrev d : Direction
  d = get_or in_order j Right

  abbrev After : List ℕ → List ℕ → Type 0
  After ds' qs' = Expanding (field_of l.field) l.goal l.last l.start square ds' qs' head (j + 1) × (n ≡ suc (distance_in ds' square))

  past_edge : next (field_of l.field) square d ≡ None → After ds qs
  past_edge none = (expand_pass _ _ _ _ _ _ _ _ _ E.0 d (rank_at j lj) (λ e at. absurd (cc)), E.1)

  module _ (to : ℕ) (at : next (field_of l.field) square d ≡ Some to) where
    inside : to < length ds
    unfolding field_in
    inside = put_long _ _ _ _ _ _ _ _ _ E.0 d (rank_at j lj) (wide l.field) (squares_most l.field) to at

    known : (get_or ds to 0 ≡ 65535 → ⊥) → After ds qs
    known ne =
        (expand_pass _ _ _ _ _ _ _ _ _ E.0 d (rank_at j lj) (λ e q far. let same : e ≡ to = cc in ne (get_or_default ds to 0 65534 inside ∙ (ap (distance_in ds) (sym same) ∙ far))), E.1)

    module _ (far : get_or ds to 0 ≡ 65535) where
      far_in : distance_in ds to ≡ 65535
      far_in = get_or_default ds to 65534 0 inside ∙ far

      put : After (set ds to n) (qs ++ (to ∷ []))
      unfolding field_in
      put = (
        expand_put _ _ _ _ _ _ _ _ _ E.0 d (rank_at j lj) (wide l.field) (squares_most l.field) to at far_in n E.1,
        E.1 ∙ ap suc (sym (put_kept _ _ _ _ _ _ _ _ _ E.0 d (rank_at j lj) (wide l.field) (squares_most l.field) to at far_in n E.1)),
      )

pub loop-direction-init : goal.loop-direction-init
loop-direction-init c =
    let long : length c.args.distances.now ≡ 4096 = omega arith in
    rw c.deref.ensures.0 (begun c.args.self.now _ _ _ long c.requires, read c.args.self.now _ _ _ long c.requires)

pub bounds-distances-to : goal.bounds-distances-to
bounds-distances-to c =
    omega (arith, inside c.args.self.now _ _ _ _ _ _ c.loop-direction-test.true c.loop-direction.invariant c.in-Some.to (sym c.in-Some.ensures), c.loop-direction.invariant.0.table_long)

pub loop-direction-preserved : goal.loop-direction-preserved
loop-direction-preserved c =
    elim c.match-next.branch [
      | in-Some+then-distances-to w ↦
          rw (w.distances-is, w.queue-is, w.push.ensures.items)
          (put c.args.self.now _ _ _ _ _ _ c.loop-direction-test.true c.loop-direction.invariant w.in-Some.to (sym w.in-Some.ensures) w.if-distances-to.true)
      | in_default w ↦
          rw (w.distances-is, w.queue-is)
          (elim w.in_default.branch [
            | in_default-via-in-None-1 v ↦ past_edge c.args.self.now _ _ _ _ _ _ c.loop-direction-test.true c.loop-direction.invariant (cc)
            | in_default-via-in-Some+else-distances-to v ↦
                known c.args.self.now _ _ _ _ _ _ c.loop-direction-test.true c.loop-direction.invariant v.in-Some.to (sym v.in-Some.ensures) v.if-distances-to.false
          ])
    ]

pub returns-clause-spreading : goal.returns-clause-spreading
unfolding field_in
returns-clause-spreading c = expand_done _ _ _ _ _ _ _ _ _ c.loop-direction.invariant.0 (wide c.args.self.now.field) c.args.self.now.here (omega arith)
