-- The events of the code, as the rules have them.
use Rattle.std.specs.Prelude.{◌≡◌, ℕ, ◌≤◌, true, List, length}
use Rattle.rules.specs.Event.{Event, order, step, arrive}
use Rattle.rules.specs.Memory.{event_ok, event_in}
use Rattle.hall.specs.declared.event.Event.{Event as Called}
use Rattle.hall.specs.declared.event.Event.TheVariants.{Order, Step, Arrive}

-- the event of shuttle i
abbrev pub event_of : ℕ → Called → Event
event_of i (Order r) = order i r.now
event_of i Step = step i
event_of i Arrive = arrive i

-- an order's route has at most 256 squares
abbrev pub short : Called → Type 0
short (Order r) = length r.now ≤ 256
short Step = Unit {0}
short Arrive = Unit {0}

-- these numbers are an event of one of n shuttles, and it is this one
pub record IsEvent (n kind i : ℕ) (r : List ℕ) (e : Called) : Type 0 where
  pub accepted : event_ok n kind i r ≡ true
  pub is : event_of i e ≡ event_in kind i r
  pub is_short : short e
