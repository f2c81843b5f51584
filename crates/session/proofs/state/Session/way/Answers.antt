-- What the way answers.
use Rattle.std.proofs.Common.{◌≡◌, ◌<◌, length, get_or, vec_items, Some, None, Ok, Err, refl, subst, rules}
use Rattle.rules.specs.Memory.{FieldNumbers, field_in}
use Rattle.field.specs.Model.{numbers_in}
use Rattle.text.specs.declared.failure.Failure.TheVariants.{Refused}
use Rattle.session.specs.Ways.{squares_at, Told}
use Rattle.session.proofs.Told.{told_along, told_nowhere, told_refused}
use Rattle.session.proofs.state.Session.way.Goals as goal

pub returns-in-Some : goal.returns-in-Some
returns-in-Some c =
    let f = c.field-field.result in
    let there : c.args.shuttle < length f.bays.now = search rules in
    let bay : c.in_ok-bay.bay ≡ get_or f.bays.now c.args.shuttle 0 = search rules in
    let squares : squares_at (field_in (numbers_in f)) c.args.places.now ≡ Some (vec_items c.in_ok-row.row) = search rules in
    let answered = rw c.in-Some.is at c.in_ok-found.ensures in
    subst (λ (lent : FieldNumbers). Told lent c.args.shuttle c.args.places.now (Ok (Some c.in_ok-letters_of-in-Some.field-0))) c.field-field.ensures
    (told_along (numbers_in f) c.args.shuttle _ c.args.places.now (vec_items c.in_ok-row.row) c.as_slice.result.now _ c.way.new.route there bay squares
    c.as_slice.ensures.value refl c.in-Some.squares c.in_ok-letters_of-in-Some.field-0 answered c.in_ok-letters_of-in-Some.ensures)

pub returns : goal.returns
returns c =
    let f = c.field-field.result in
    let there : c.args.shuttle < length f.bays.now = search rules in
    let bay : c.in_ok-bay.bay ≡ get_or f.bays.now c.args.shuttle 0 = search rules in
    let squares : squares_at (field_in (numbers_in f)) c.args.places.now ≡ Some (vec_items c.in_ok-row.row) = search rules in
    let answered = rw c.in-None.is at c.in_ok-found.ensures in
    subst (λ (lent : FieldNumbers). Told lent c.args.shuttle c.args.places.now (Ok None)) c.field-field.ensures
    (told_nowhere (numbers_in f) c.args.shuttle _ c.args.places.now (vec_items c.in_ok-row.row) c.as_slice.result.now _ c.way.new.route there bay squares
    c.as_slice.ensures.value refl answered)

pub returns-in_err-found : goal.returns-in_err-found
returns-in_err-found c =
    let f = c.field-field.result in
    let there : c.args.shuttle < length f.bays.now = search rules in
    let bay : c.in_ok-bay.bay ≡ get_or f.bays.now c.args.shuttle 0 = search rules in
    let squares : squares_at (field_in (numbers_in f)) c.args.places.now ≡ Some (vec_items c.in_ok-row.row) = search rules in
    let refusal = c.in_err-found.field-0.0 in
    let told =
    subst (λ (lent : FieldNumbers). Told lent c.args.shuttle c.args.places.now (Err refusal)) c.field-field.ensures
    (told_refused (numbers_in f) c.args.shuttle _ c.args.places.now (vec_items c.in_ok-row.row) c.as_slice.result.now _ c.way.new.route there bay squares
    c.as_slice.ensures.value refl refusal f.accepted c.in_err-found.ensures)
    in
    let turned : c.from_residual-in_err-found.result ≡ Err (Refused refusal) = search rules in
    rw turned told
