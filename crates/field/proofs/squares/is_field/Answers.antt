-- Each test is one of the definition.
use Rattle.std.proofs.Common.{arith}
use Rattle.std.proofs.lemmas.Bool.Decides.{nat_tests}
use Rattle.rules.specs.Field.{sound}
use Rattle.rules.specs.Memory.{field_ok, field_in}
use Rattle.field.proofs.squares.is_field.Goals as goal

pub returns-then-across-eq0 : goal.returns-then-across-eq0
unfolding field_ok field_in sound
returns-then-across-eq0 c = grind (arith, nat_tests)

pub returns-then-walls-across : goal.returns-then-walls-across
unfolding field_ok field_in sound
returns-then-walls-across c = grind (arith, nat_tests)

pub returns-then-are_marks : goal.returns-then-are_marks
unfolding field_ok field_in sound
returns-then-are_marks c = grind (arith, nat_tests)

pub returns-else-are_marks : goal.returns-else-are_marks
unfolding field_ok field_in sound
returns-else-are_marks c = grind (arith, nat_tests)
