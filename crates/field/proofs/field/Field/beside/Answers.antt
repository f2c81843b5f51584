-- Each way through the test is one of the definition.
use Rattle.std.proofs.Common.{arith}
use Rattle.std.proofs.lemmas.Bool.Decides.{nat_tests}
use Rattle.rules.specs.Field.{beside}
use Rattle.rules.specs.Memory.{field_in}
use Rattle.field.specs.Model.{field_of}
use Rattle.field.proofs.Facts.{facts}
use Rattle.field.proofs.Leading.{leads_beside}
use Rattle.field.proofs.field.Field.beside.Goals as goal

pub overflow_add-c-else-in_row : goal.overflow_add-c-else-in_row
overflow_add-c-else-in_row c = let k = (facts c.args.self.now).across_most in omega arith

pub overflow_add-result : goal.overflow_add-result
overflow_add-result c = let k = (facts c.args.self.now).across_most in omega arith

pub returns-then-c-self : goal.returns-then-c-self
unfolding beside field_in
returns-then-c-self c = record { beside = grind (arith, nat_tests); leads = leads_beside (field_of c.args.self.now) (facts c.args.self.now).across_least }

pub returns-else-c-self : goal.returns-else-c-self
unfolding beside field_in
returns-else-c-self c = record { beside = grind (arith, nat_tests); leads = leads_beside (field_of c.args.self.now) (facts c.args.self.now).across_least }
