-- Each shuttle is at home; what was turned away is no field.
use Rattle.std.proofs.Common.{◌≡◌, false, Err, vec_items, rules, sym, refl, ap, ◌∙◌, arith}
use Rattle.std.specs.Vec.{with_items}
use Rattle.std.proofs.lemmas.List.{with_items_is}
use Rattle.rules.specs.Shuttle.{at_home}
use Rattle.rules.specs.Memory.{FieldNumbers, field_numbers, field_in, field_ok, shuttle_in}
use Rattle.rules.proofs.Fields.{accepted}
use Rattle.text.specs.Shown.{numbers_of}
use Rattle.text.specs.declared.failure.Failure.TheVariants.{Refused}
use Rattle.session.proofs.Opening.{start_home, start_none}
use Rattle.session.proofs.state.Session.open.Goals as goal
use Rattle.session.proofs.state.Session.open.Goals.{After-start}

-- the numbers that were lent
lent : (c : After-start) → field_numbers c.args.shown.across c.args.shown.down c.as_slice-walls.result.now c.as_slice-bays.result.now ≡ numbers_of c.args.shown
lent c = λ i. field_numbers c.args.shown.across c.args.shown.down (c.as_slice-walls.ensures.value i) (c.as_slice-bays.ensures.value i)

-- the memory that the start leaves is what the hall holds
filled : (c : After-start) → c.start.new.memory ≡ vec_items (with_items c.in_ok-memory.memory c.start.new.memory)
filled c = sym (with_items_is c.in_ok-memory.memory c.start.new.memory (c.start.auto.memory ∙ c.as_mut_slice.ensures.len))

pub returns : goal.returns
returns c =
    let a = (goal.at.returns c).After-start in
    let home = start_home _ c.as_mut_slice.result.now c.start.new.memory c.in_ok-start.ensures.answered.says in
    record {
      same = refl;
      home = λ i _.
          ap (λ l. shuttle_in l i) (sym (filled a)) ∙ home i ∙ ap (λ (n : FieldNumbers). at_home (field_in n) i) (lent a);
    }

pub returns-in_err-start : goal.returns-in_err-start
returns-in_err-start c =
    let a = (goal.at.returns-in_err-start c).After-start in
    let refusal = c.in_err-start.field-0.0 in
    let none =
    start_none _ c.as_mut_slice.result.now c.start.new.memory refusal c.in_err-start.ensures.answered.says
    (λ ok.
    omega (
      arith,
      (accepted _ ok).few,
      c.as_slice-bays.ensures.len,
      c.len.ensures,
      c.min.ensures,
      c.in_ok-memory.ensures.len,
      c.as_mut_slice.ensures.len,
    ))
    in
    let no_field : field_ok (numbers_of c.args.shown) ≡ false = sym (ap field_ok (lent a)) ∙ none.1 in
    let turned : c.from_residual-in_err-start.result ≡ Err (Refused refusal) = search rules in
    rw turned (none.0, no_field)
