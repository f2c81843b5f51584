-- The bays are looked at from the last.
use Rattle.std.proofs.Common.{◌≡◌, ℕ, Bool, eqb, get_or, length, rules}
use borrow.Author.Tests.{tests}
use Rattle.rules.specs.Memory.{field_in}
use Rattle.field.specs.Model.{field_of}
use Rattle.field.proofs.Facts.{facts}
use Rattle.session.specs.Picture.{bay_at}
use Rattle.session.proofs.Backwards.{last_found, last_few}
use Rattle.session.proofs.picture.bay_at.Goals as goal

pub returns : goal.returns
unfolding field_in
returns c =
    let f = c.args.field.now in
    let test : ℕ → Bool = λ i. eqb (get_or f.bays.now i 0) c.args.square in
    let is : c.find.result ≡ bay_at (field_of f) c.args.square =
    last_found (length f.bays.now) test _ _ _ c.find.ensures.ran c.rev.ensures.source (λ x b q k. search (rules, tests)) in
    record { is = is; there = last_few (length f.bays.now) test c.find.result (facts f).few is }
