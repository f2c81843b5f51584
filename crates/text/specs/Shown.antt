-- The field in numbers that rows show.
use Rattle.std.specs.Prelude.{◌≡◌, ℕ, List, map, length, None, vec_items}
use Rattle.rules.specs.Memory.{FieldNumbers, field_numbers}
use Rattle.text.specs.declared.field_text.FieldText.{FieldText}
use Rattle.text.specs.Fields.{fault, across_of, wall_mark, signs, bays_from}

-- the numbers that a text gave
abbrev pub numbers_of : FieldText → FieldNumbers
numbers_of t = field_numbers t.across t.down (vec_items t.walls) (vec_items t.bays)

-- rows that can be read, and the field in numbers that they show
pub record Shows (rs : List (List ℕ)) (t : FieldText) : Type 0 where
  pub readable : fault rs ≡ None
  pub is_across : t.across ≡ across_of rs
  pub is_down : t.down ≡ length rs
  pub are_walls : vec_items t.walls ≡ map wall_mark (signs rs)
  pub are_bays : vec_items t.bays ≡ bays_from 16 97 (signs rs)
