-- Fields of both kinds, by computing.
use Rattle.std.proofs.Common.{ℕ, refl}
use Rattle.rules.specs.Tests.{every_to, any_to}
use Rattle.rules.specs.Field.{is_bay_to, is_bay, free_square, bay_ok, sound, beside}
use Rattle.rules.specs.Memory.{field_in}
use Rattle.turns.specs.Parts.{open_square, linked, at_bay, joined, joined_row, joined_all, parts, touches, not_three}
use Rattle.turns.specs.Parts.{never_three, at_most_two}
use Rattle.turns.specs.Starving.{corner}
use Rattle.turns.specs.Examples.{lanes, BothKinds}

-- what the computation has to open
field_open : ℕ
unfolding every_to any_to is_bay_to is_bay free_square bay_ok sound beside field_in corner lanes
field_open = 0

pub both_kinds : BothKinds
unfolding field_open open_square linked at_bay joined joined_row joined_all parts touches not_three never_three at_most_two
both_kinds = record { lanes_sound = refl; lanes_two = refl; corner_three = refl }
