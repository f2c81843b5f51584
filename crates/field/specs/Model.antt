-- The field that a value of the code stands for.
use Rattle.rules.specs.Field.{Field}
use Rattle.rules.specs.Memory.{FieldNumbers, field_numbers, field_in}
use Rattle.field.specs.declared.field.Field.{Field as Lent}

-- its numbers
abbrev pub numbers_in : Lent → FieldNumbers
numbers_in f = field_numbers f.across f.down f.walls.now f.bays.now

abbrev pub field_of : Lent → Field
field_of f = field_in (numbers_in f)
