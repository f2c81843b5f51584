-- The refusals come in their order; what is not turned away happens or not.
use Rattle.std.proofs.Common.{◌≡◌, sym, refl, ap, length, List, ℕ, Ok, subst, ◌∙◌, arith}
use Rattle.std.proofs.lemmas.Result.{err_from_is_err_and}
use Rattle.rules.specs.Event.{does}
use Rattle.rules.specs.Memory.{field_numbers, field_in, shuttle_in}
use Rattle.calls.specs.Call.{Answered}
use Rattle.calls.proofs.Refusal.{none_refusal}
use Rattle.field.specs.declared.refusal.Refusal.TheVariants.{Field, Memory, Event}
use Rattle.hall.specs.Answer.{done_of, number}
use Rattle.hall.specs.Event.{event_of}
use Rattle.hall.proofs.Events.{event_there}
use Rattle.hall.proofs.Called.{refused_field, refused_memory, refused_event, turned_away, taken}
use Rattle.hall.proofs.entry.answer.Goals as goal

pub returns-in_err-field : goal.returns-in_err-field
returns-in_err-field c =
    let a = c.args in
    let lent = field_numbers a.across a.down a.walls.now a.bays.now in
    let p = err_from_is_err_and c.from_residual.result c.from_residual.ensures.1 in
    let k = turned_away lent a.memory.now a.kind a.shuttle a.route.now Field 0 refl
    (refused_field lent a.memory.now a.kind a.shuttle a.route.now c.in_err-field.ensures.1) in
    rw (p.1, p.2, c.in_err-field.ensures.0) (record { answered = k.says; refuses = k.why })

pub returns-then-not-is_memory : goal.returns-then-not-is_memory
returns-then-not-is_memory c =
    let a = c.args in
    let lent = field_numbers a.across a.down a.walls.now a.bays.now in
    let is = c.in_ok-field.ensures in
    let ok = rw is at c.in_ok-field.field.accepted in
    let bad = rw is at (sym c.is_memory.ensures ∙ c.if-not-is_memory.true) in
    let k = turned_away lent a.memory.now a.kind a.shuttle a.route.now Memory 1 refl
    (refused_memory lent a.memory.now a.kind a.shuttle a.route.now ok bad) in
    record { answered = k.says; refuses = k.why }

pub returns-in_err-event : goal.returns-in_err-event
returns-in_err-event c =
    let a = c.args in
    let lent = field_numbers a.across a.down a.walls.now a.bays.now in
    let is = c.in_ok-field.ensures in
    let ok = rw is at c.in_ok-field.field.accepted in
    let kept = rw is at (sym c.is_memory.ensures ∙ c.if-not-is_memory.false) in
    let p = err_from_is_err_and c.from_residual-in_err-event.result c.from_residual-in_err-event.ensures.1 in
    let k = turned_away lent a.memory.now a.kind a.shuttle a.route.now Event 2 refl
    (refused_event lent a.memory.now a.kind a.shuttle a.route.now ok kept c.in_err-event.ensures.1) in
    rw (p.1, p.2, c.in_err-event.ensures.0) (record { answered = k.says; refuses = k.why })

pub take_event-requires : goal.take_event-requires
take_event-requires c =
    let is = c.in_ok-field.ensures in
    let there = event_there _ _ _ _ c.in_ok-event.ensures.accepted in
    let e = ap (λ t. length t.bays) is in
    record { there = omega arith; short = c.in_ok-event.ensures.is_short }

pub returns : goal.returns
returns c =
    let a = c.args in
    let lent = field_numbers a.across a.down a.walls.now a.bays.now in
    let is = c.in_ok-field.ensures in
    let ok = rw is at c.in_ok-field.field.accepted in
    let kept = rw is at (sym c.is_memory.ensures ∙ c.if-not-is_memory.false) in
    let none = none_refusal lent a.memory.now a.kind a.shuttle a.route.now ok kept c.in_ok-event.ensures.accepted in
    let e = event_of a.shuttle c.in_ok-event.event in
    let happens : c.take_event.result ≡ does (field_in lent) (shuttle_in a.memory.now) e =
    c.take_event.ensures.does ∙ ap (λ t. does (field_in t) (shuttle_in a.memory.now) e) is in
    let k = taken lent a.memory.now a.kind a.shuttle a.route.now e c.take_event.result c.take_event.new.hall.memory.now c.in_ok-event.ensures.is none happens
    c.take_event.ensures.left in
    let left_by : List ℕ → Type 0 = λ m. Answered lent a.memory.now a.kind a.shuttle a.route.now (number (done_of (Ok c.take_event.result))) m in
    record { answered = subst left_by (grind arith) k.says; refuses = k.why }
