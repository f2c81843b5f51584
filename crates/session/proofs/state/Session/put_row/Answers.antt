-- One column more, and the end of the row.
use Rattle.std.proofs.Common.{◌+◌, ◌*◌, vec_items, arith}
use Rattle.std.proofs.lemmas.Nat.{mul-add-lt}
use Rattle.rules.specs.Memory.{field_in}
use Rattle.session.specs.Picture.{sign_at}
use Rattle.session.specs.Played.{field_of, fleet_of}
use Rattle.session.proofs.Led.{led_facts}
use Rattle.session.proofs.Signs.{column_more, row_end}
use Rattle.session.proofs.state.Session.put_row.Goals as goal

pub overflow_mul-first : goal.overflow_mul-first
overflow_mul-first c =
    let t = c.args.self.now.shown in
    let k = led_facts c.args.self.now.reached in
    omega (arith, mul-add-lt c.args.row t.across 0 t.down c.requires k.across_least, k.squares_most)

pub overflow_add-first : goal.overflow_add-first
overflow_add-first c =
    let t = c.args.self.now.shown in
    let k = led_facts c.args.self.now.reached in
    omega (arith, mul-add-lt c.args.row t.across c.loop-column.column t.down c.requires c.loop-column-test.true, k.squares_most)

pub overflow_cast-first : goal.overflow_cast-first
overflow_cast-first c =
    let t = c.args.self.now.shown in
    let k = led_facts c.args.self.now.reached in
    omega (arith, mul-add-lt c.args.row t.across c.loop-column.column t.down c.requires c.loop-column-test.true, k.squares_most)

pub sign-requires : goal.sign-requires
sign-requires c =
    let t = c.args.self.now.shown in
    let k = led_facts c.args.self.now.reached in
    omega (arith, mul-add-lt c.args.row t.across c.loop-column.column t.down c.requires c.loop-column-test.true, k.walls_long)

pub loop-column-preserved : goal.loop-column-preserved
loop-column-preserved c =
    let s = c.args.self.now in
    column_more (λ x. sign_at (field_of s) (fleet_of s) (c.args.row * s.shown.across + x)) c.loop-column.column c.sign.result (vec_items c.args.signs.now)
    (vec_items c.loop-column.signs) (vec_items c.push.new.self) c.loop-column.invariant c.sign.ensures c.in_ok-push.ensures.items

pub returns : goal.returns
unfolding field_in
returns c =
    let s = c.args.self.now in
    row_end (λ x. sign_at (field_of s) (fleet_of s) (c.args.row * s.shown.across + x)) c.loop-column.column s.shown.across (vec_items c.args.signs.now)
    (vec_items c.loop-column.signs) (vec_items c.push-2.new.self) c.loop-column.invariant (omega arith) c.in_ok-push-2.ensures.items
