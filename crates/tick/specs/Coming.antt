-- A hall of the code before and after the arrivals of a tick.
use Rattle.std.specs.Prelude.{◌≡◌, ℕ, List}
use Rattle.field.specs.Model.{field_of}
use Rattle.memory.specs.declared.hall.Hall.{Hall}
use Rattle.tick.specs.Tick.{come_in}

-- the arrivals that are due of the first k shuttles are made; the field stays, and memory is the one that was lent
pub record CameIn (was now : Hall) (marks : List ℕ) (k : ℕ) : Type 0 where
  pub same_reference : now.memory.ghost_name ≡ was.memory.ghost_name
  pub same_field : now.field ≡ was.field
  pub come : now.memory.now ≡ come_in (field_of was.field) was.memory.now marks k
