-- A field is at most 64 across.
use Rattle.std.proofs.Common.{arith}
use Rattle.field.proofs.Facts.{facts}
use Rattle.field.proofs.field.Field.direction_to.Goals as goal

pub overflow_add-c : goal.overflow_add-c
overflow_add-c c = let k = (facts c.args.self.now).across_most in omega arith

pub overflow_add-d : goal.overflow_add-d
overflow_add-d c = let k = (facts c.args.self.now).across_most in omega arith
