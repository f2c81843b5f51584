-- A square of the field has a number below 4,096.
use Rattle.std.proofs.Common.{arith}
use Rattle.std.proofs.lemmas.Nat.{mul-add-lt}
use Rattle.std.proofs.lemmas.Bool.Decides.{nat_tests}
use Rattle.rules.specs.Memory.{field_in}
use Rattle.field.proofs.Facts.{facts}
use Rattle.session.proofs.leading.square_at.Goals as goal

pub overflow_mul-result : goal.overflow_mul-result
overflow_mul-result c =
    let f = c.args.field.now in
    let p = c.args.place.now in
    omega (arith, mul-add-lt p.row f.across p.column f.down c.if-place-field-2.true c.if-place-field.true, (facts f).squares_most)

pub overflow_add-result : goal.overflow_add-result
overflow_add-result c =
    let f = c.args.field.now in
    let p = c.args.place.now in
    omega (arith, mul-add-lt p.row f.across p.column f.down c.if-place-field-2.true c.if-place-field.true, (facts f).squares_most)

pub overflow_cast-result : goal.overflow_cast-result
overflow_cast-result c =
    let f = c.args.field.now in
    let p = c.args.place.now in
    omega (arith, mul-add-lt p.row f.across p.column f.down c.if-place-field-2.true c.if-place-field.true, (facts f).squares_most)

pub returns-then-place-field-2 : goal.returns-then-place-field-2
unfolding field_in
returns-then-place-field-2 c = grind (arith, nat_tests)

pub returns-else-place-field : goal.returns-else-place-field
unfolding field_in
returns-else-place-field c = grind (arith, nat_tests)
