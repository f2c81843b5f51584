-- One row more; what is drawn has every promise.
use Rattle.std.proofs.Common.{◌≡◌, vec_items, ap, ◌∙◌, arith}
use Rattle.std.specs.List.{range_with_len, flat_map}
use Rattle.rules.specs.Memory.{field_in}
use Rattle.session.specs.Picture.{picture_row}
use Rattle.session.specs.Played.{field_of, fleet_of}
use Rattle.session.proofs.Led.{led_keeps}
use Rattle.session.proofs.Signs.{row_more}
use Rattle.session.proofs.state.Session.picture.Goals as goal

pub loop-row-preserved : goal.loop-row-preserved
loop-row-preserved c =
    row_more (picture_row (field_of c.args.self.now) (fleet_of c.args.self.now)) c.loop-row.row (vec_items c.loop-row.signs) (vec_items c.put_row.new.signs)
    c.loop-row.invariant c.in_ok-put_row.ensures

pub returns-in_err-put_row-clause-kept : goal.returns-in_err-put_row-clause-kept
returns-in_err-put_row-clause-kept c = led_keeps c.args.self.now.reached

pub returns-clause-kept : goal.returns-clause-kept
returns-clause-kept c = led_keeps c.args.self.now.reached

pub returns-clause-drawn : goal.returns-clause-drawn
unfolding field_in
returns-clause-drawn c =
    let s = c.args.self.now in
    let all : c.loop-row.row ≡ s.shown.down = omega arith in
    c.loop-row.invariant ∙ ap (λ n. flat_map (picture_row (field_of s) (fleet_of s)) (range_with_len 0 n)) all
