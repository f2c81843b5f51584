-- A mark within the field is 0 or 1, so that one that is not 0 is a wall.
use Rattle.std.proofs.Common.{leb, arith}
use Rattle.std.proofs.lemmas.Bool.Decides.{nat_tests}
use Rattle.rules.specs.Field.{free_square}
use Rattle.rules.specs.Memory.{field_in}
use Rattle.rules.proofs.Tests.{every_tells}
use Rattle.field.proofs.Facts.{facts}
use Rattle.field.proofs.field.Field.is_free.Goals as goal

pub returns : goal.returns
unfolding free_square field_in
returns c =
    let k = facts c.args.self.now in
    let mark = every_tells (λ w. leb w 1) c.args.self.now.walls.now k.are_marks c.args.square 0 in
    let long = k.walls_long in grind (arith, nat_tests)
