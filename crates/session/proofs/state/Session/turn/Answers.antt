-- The tick is made in the memory of the hall.
use Rattle.std.proofs.Common.{◌≡◌, vec_items, sym, refl, ◌∙◌}
use Rattle.std.specs.Vec.{with_items}
use Rattle.std.proofs.lemmas.List.{with_items_is}
use Rattle.field.specs.Model.{numbers_in}
use Rattle.field.proofs.Facts.{facts}
use Rattle.session.proofs.Led.{led_field}
use Rattle.session.proofs.Turns.{led_turned, turned_on, whose_there}
use Rattle.session.proofs.state.Session.turn.Goals as goal
use Rattle.session.proofs.state.Session.turn.Goals.{After-tick}

pub lent-field-requires : goal.lent-field-requires
lent-field-requires c = led_field c.args.self.now.reached

-- the memory that the tick leaves is what the hall holds
filled : (c : After-tick) → c.tick.new.memory ≡ vec_items (with_items c.args.self.now.memory c.tick.new.memory)
filled c = sym (with_items_is c.args.self.now.memory c.tick.new.memory (c.tick.auto.memory ∙ c.as_mut_slice-memory.ensures.len))

pub invariant_of-self : goal.invariant_of-self
invariant_of-self c =
    let led =
    led_turned c.args.self.now (numbers_in c.lent-field.result) c.as_mut_slice-memory.result.now c.tick.new.memory c.lent-field.ensures
    c.as_mut_slice-memory.ensures.value c.args.waits.now c.tick.new.waits c.args.marks.now c.tick.result c.tick.ensures.answers
    in
    record { reached = rw (filled (goal.at.invariant_of-self c).After-tick) at led }

pub returns-clause-turned : goal.returns-clause-turned
returns-clause-turned c =
    turned_on c.args.self.now (numbers_in c.lent-field.result) c.as_mut_slice-memory.result.now c.tick.new.memory c.lent-field.ensures
    c.as_mut_slice-memory.ensures.value c.args.waits.now c.tick.new.waits c.args.marks.now c.tick.result c.tick.ensures.answers _ refl
    (filled (goal.at.returns-clause-turned c).After-tick)

pub returns-clause-there : goal.returns-clause-there
returns-clause-there c =
    whose_there (numbers_in c.lent-field.result) c.as_mut_slice-memory.result.now c.tick.new.memory c.args.waits.now c.tick.new.waits c.args.marks.now
    (facts c.lent-field.result).few c.tick.result c.tick.ensures.answers
