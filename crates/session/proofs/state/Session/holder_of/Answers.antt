-- The shuttles are looked at from the last.
use Rattle.std.proofs.Common.{◌≡◌, ℕ, Bool, length, vec_items, rules, arith, ap, ◌∙◌}
use borrow.Author.Tests.{tests}
use Rattle.rules.specs.Shuttle.{holds}
use Rattle.rules.specs.Memory.{field_in, shuttle_in}
use Rattle.session.specs.Picture.{holder_of}
use Rattle.session.specs.Played.{field_of, fleet_of}
use Rattle.session.proofs.Backwards.{last_found, last_few}
use Rattle.session.proofs.Led.{led_facts}
use Rattle.session.proofs.state.Session.holder_of.Goals as goal

pub returns : goal.returns
unfolding field_in shuttle_in
returns c =
    let s = c.args.self.now in
    let test : ℕ → Bool = λ i. holds (fleet_of s i) c.args.square in
    let many : c.len.result ≡ length (vec_items s.shown.bays) = omega (arith, c.len.ensures, s.shown.bays.ok.0) in
    let is : c.find.result ≡ holder_of (field_of s) (fleet_of s) c.args.square =
    last_found (length (vec_items s.shown.bays)) test _ _ _ c.find.ensures.ran
    (c.rev.ensures.source ∙ ap (λ (n : ℕ). record { start = 0; end = n }) many) (λ x b q k. search (rules, tests)) in
    record { is = is; there = last_few (length (vec_items s.shown.bays)) test c.find.result (led_facts s.reached).few is }
