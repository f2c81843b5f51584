-- The tests are those of the definition.
use Rattle.std.proofs.Common.{get_or, sym, ◌∙◌, arith}
use Rattle.std.proofs.lemmas.Bool.{and_left, not_from_true, not_from_false}
use Rattle.memory.specs.Shuttles.{nobody}
use Rattle.safety.specs.Fleets.{fleet_of}
use Rattle.safety.proofs.Fitting.{count_most, memory_near, fitting, fits_put}
use Rattle.rules.proofs.Tests.{and_true}
use Rattle.grant.proofs.Moving.{moved_fits, grants_of, not_waiting, waiting}
use Rattle.grant.proofs.steps.is_granted.Goals as goal

pub offset_bounds-fleet-i : goal.offset_bounds-fleet-i
offset_bounds-fleet-i c = let few = count_most c.args.fleet.now in let l = c.requires in omega arith

pub bounds-fleet-i : goal.bounds-fleet-i
bounds-fleet-i c = let few = count_most c.args.fleet.now in let l = c.requires in omega arith

pub returns-then-not-waits : goal.returns-then-not-waits
returns-then-not-waits c = λ f e.
    let g = c.args.fleet.now in
    let k = fitting g c.args.i c.requires in
    sym (not_waiting f (fleet_of g.shuttles g.memory.now) c.args.i (sym (c.waits.ensures g.memory.now k.within) ∙ c.if-not-waits.true))

pub bounds-fleet-shuttle : goal.bounds-fleet-shuttle
bounds-fleet-shuttle c =
    let g = c.args.fleet.now in
    let k = fitting g c.args.i c.requires in
    let w = waiting g.memory.now (get_or g.shuttles c.args.i nobody) (sym (c.waits.ensures g.memory.now k.within) ∙ c.if-not-waits.false) in
    omega (arith, w.1, k.within)

pub returns-then-is_held_by_other : goal.returns-then-is_held_by_other
returns-then-is_held_by_other c = λ f e.
    let g = c.args.fleet.now in
    let k = fitting g c.args.i c.requires in
    let w = waiting g.memory.now (get_or g.shuttles c.args.i nobody) (sym (c.waits.ensures g.memory.now k.within) ∙ c.if-not-waits.false) in
    sym (grants_of g c.args.i c.requires f e w.0 w.1
    ∙ and_left _ _ (not_from_true _ (sym c.is_held_by_other.ensures ∙ c.if-is_held_by_other.true)))

pub overflow_add-after : goal.overflow_add-after
overflow_add-after c = let k = fitting c.args.fleet.now c.args.i c.requires in let near = memory_near c.args.fleet.now in omega arith

pub overflow_sub-after : goal.overflow_sub-after
overflow_sub-after c =
    let g = c.args.fleet.now in
    let k = fitting g c.args.i c.requires in
    (waiting g.memory.now (get_or g.shuttles c.args.i nobody) (sym (c.waits.ensures g.memory.now k.within) ∙ c.if-not-waits.false)).1

pub offset_bounds-after-i : goal.offset_bounds-after-i
offset_bounds-after-i c = let few = count_most c.args.fleet.now in let l = c.requires in omega arith

pub bounds-after-i : goal.bounds-after-i
bounds-after-i c = let few = count_most c.args.fleet.now in let l = c.requires in omega arith

pub returns : goal.returns
returns c = λ f e.
    let g = c.args.fleet.now in
    let k = fitting g c.args.i c.requires in
    let w = waiting g.memory.now (get_or g.shuttles c.args.i nobody) (sym (c.waits.ensures g.memory.now k.within) ∙ c.if-not-waits.false) in
    sym (grants_of g c.args.i c.requires f e w.0 w.1
    ∙ and_true _ _ (not_from_false _ (sym c.is_held_by_other.ensures ∙ c.if-is_held_by_other.false)) ∙ sym c.is_safe.ensures)

pub invariant_of-after : goal.invariant_of-after
invariant_of-after c =
    let g = c.args.fleet.now in
    let i = c.args.i in
    let s = get_or g.shuttles i nobody in
    let k = fitting g i c.requires in
    let w = waiting g.memory.now s (sym (c.waits.ensures g.memory.now k.within) ∙ c.if-not-waits.false) in
    record { fits = fits_put g i _ c.requires (moved_fits g.memory.now s k w.1) }
