-- Fields of both kinds: one in which each part touches at most two bays, and the one in which somebody starves, in which a part touches
-- three.
use Rattle.std.specs.Prelude.{◌≡◌, true, false, [], ◌∷◌}
use Rattle.rules.specs.Field.{Field, sound}
use Rattle.rules.specs.Memory.{field_numbers, field_in}
use Rattle.turns.specs.Parts.{at_most_two}
use Rattle.turns.specs.Starving.{corner}

-- the rows `a.b`, `###` and `c.d`
unfoldable pub lanes : Field
lanes = field_in (field_numbers 3 3 (0 ∷ 0 ∷ 0 ∷ 1 ∷ 1 ∷ 1 ∷ 0 ∷ 0 ∷ 0 ∷ []) (0 ∷ 2 ∷ 6 ∷ 8 ∷ []))

pub record BothKinds : Type 0 where
  pub lanes_sound : sound lanes ≡ true
  pub lanes_two : at_most_two lanes ≡ true
  pub corner_three : at_most_two corner ≡ false
