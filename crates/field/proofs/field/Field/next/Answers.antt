-- Squares are below 4096, and a field is at most 64 across.
use Rattle.std.proofs.Common.{arith}
use Rattle.field.proofs.Facts.{facts}
use Rattle.field.proofs.field.Field.next.Goals as goal

pub overflow_add-c-in-Down-1 : goal.overflow_add-c-in-Down-1
overflow_add-c-in-Down-1 c = let k = (facts c.args.self.now).across_most in omega arith

pub overflow_cast-result : goal.overflow_cast-result
overflow_cast-result c =
    let k = facts c.args.self.now in
    let few = k.squares_most in
    let long = k.walls_long in
    let inside = c.if-c-squares.true in
    omega arith

pub overflow_cast-result-in-Down : goal.overflow_cast-result-in-Down
overflow_cast-result-in-Down c =
    let k = facts c.args.self.now in
    let few = k.squares_most in
    let long = k.walls_long in
    let inside = c.if-c-self.true in
    omega arith
