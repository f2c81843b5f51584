-- A hall of the code, before and after.
use Rattle.std.specs.Prelude.{◌≡◌, ℕ, Bool, cond}
use Rattle.rules.specs.Shuttle.{Shuttle}
use Rattle.rules.specs.Event.{Event, does, who, becomes}
use Rattle.rules.specs.Memory.{shuttle_in, stored}
use Rattle.field.specs.Model.{field_of}
use Rattle.memory.specs.declared.hall.Hall.{Hall}

-- shuttle i is written into memory; the field stays, and memory is the one that was lent
pub record Writes (was now : Hall) (i : ℕ) (s : Shuttle) : Type 0 where
  pub same_reference : now.memory.ghost_name ≡ was.memory.ghost_name
  pub same_field : now.field ≡ was.field
  pub written : now.memory.now ≡ stored was.memory.now i s

-- whether the event happens; if it does, memory has what it makes of its shuttle, and else is as it was
pub record Takes (was now : Hall) (e : Event) (done : Bool) : Type 0 where
  pub same_reference : now.memory.ghost_name ≡ was.memory.ghost_name
  pub same_field : now.field ≡ was.field
  pub does : done ≡ does (field_of was.field) (shuttle_in was.memory.now) e
  pub left : let m = was.memory.now in now.memory.now ≡ cond done (stored m (who e) (becomes e (shuttle_in m (who e)))) m
