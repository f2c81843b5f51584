-- The event is taken in the memory of the hall.
use Rattle.std.proofs.Common.{◌≡◌, Ok, Err, vec_items, rules, sym, refl, ◌∙◌}
use Rattle.std.specs.Vec.{with_items}
use Rattle.std.proofs.lemmas.List.{with_items_is}
use Rattle.field.specs.Model.{numbers_in}
use Rattle.hall.specs.Event.{event_of}
use Rattle.text.specs.declared.answers.Answer.TheVariants.{Granted, Not}
use Rattle.session.proofs.Led.{led_field, led_memory}
use Rattle.session.proofs.Taking.{led_on, came_on, number_granted, number_not, number_refused}
use Rattle.session.proofs.state.Session.event.Goals as goal
use Rattle.session.proofs.state.Session.event.Goals.{After-take}

pub lent-field-requires : goal.lent-field-requires
lent-field-requires c = led_field c.args.self.now.reached

pub take-requires : goal.take-requires
take-requires c = let led = led_memory c.args.self.now.reached in rw (c.lent-field.ensures, c.as_mut_slice-memory.ensures.value) led

-- the memory that is left is what the hall holds
filled : (c : After-take) → c.take.new.memory ≡ vec_items (with_items c.args.self.now.memory c.take.new.memory)
filled c = sym (with_items_is c.args.self.now.memory c.take.new.memory (c.take.auto.memory ∙ c.as_mut_slice-memory.ensures.len))

pub invariant_of-self : goal.invariant_of-self
invariant_of-self c =
    let s = c.args.self.now in
    let led =
    led_on s (numbers_in c.lent-field.result) c.as_mut_slice-memory.result.now c.take.new.memory c.lent-field.ensures c.as_mut_slice-memory.ensures.value
    (event_of c.args.shuttle c.args.event) c.take.result c.take.ensures in
    record { reached = rw (filled (goal.at.invariant_of-self c).After-take) at led }

pub returns-in_err-take : goal.returns-in_err-take
returns-in_err-take c =
    let s = c.args.self.now in
    let refusal = c.in_err-take.field-0.0 in
    let e = event_of c.args.shuttle c.args.event in
    let came =
    came_on s (numbers_in c.lent-field.result) c.as_mut_slice-memory.result.now c.take.new.memory c.lent-field.ensures c.as_mut_slice-memory.ensures.value e
    (Err refusal) c.in_err-take.ensures _ (Err refusal) refl (filled (goal.at.returns-in_err-take c).After-take) (number_refused refusal)
    in
    let turned : c.from_residual.result ≡ Err refusal = search rules in
    rw turned came

pub returns-then-branch : goal.returns-then-branch
returns-then-branch c =
    let s = c.args.self.now in
    let e = event_of c.args.shuttle c.args.event in
    came_on s (numbers_in c.lent-field.result) c.as_mut_slice-memory.result.now c.take.new.memory c.lent-field.ensures c.as_mut_slice-memory.ensures.value e
    (Ok c.in_ok-take.field-0) c.in_ok-take.ensures _ (Ok Granted) refl (filled (goal.at.returns-then-branch c).After-take)
    (number_granted c.in_ok-take.field-0 c.if-branch.true)

pub returns-else-branch : goal.returns-else-branch
returns-else-branch c =
    let s = c.args.self.now in
    let e = event_of c.args.shuttle c.args.event in
    came_on s (numbers_in c.lent-field.result) c.as_mut_slice-memory.result.now c.take.new.memory c.lent-field.ensures c.as_mut_slice-memory.ensures.value e
    (Ok c.in_ok-take.field-0) c.in_ok-take.ensures _ (Ok Not) refl (filled (goal.at.returns-else-branch c).After-take)
    (number_not c.in_ok-take.field-0 c.if-branch.false)
