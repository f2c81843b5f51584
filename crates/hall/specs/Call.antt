-- What a call of an event answers in a hall, and leaves.
use Rattle.std.specs.Prelude.{◌≡◌, ℕ, Bool, true, false, length, Ok, Err, Result}
use Rattle.rules.specs.Event.{Event, who}
use Rattle.rules.specs.Memory.{event_ok}
use Rattle.calls.specs.Call.{kind_of, route_of}
use Rattle.field.specs.declared.refusal.Refusal.{Refusal}
use Rattle.field.specs.declared.refusal.Refusal.TheVariants as refusal
use Rattle.memory.specs.declared.hall.Hall.{Hall}
use Rattle.memory.specs.Halls.{Takes}

-- the call of the event is accepted where there are n shuttles
abbrev pub accepts : (n : ℕ) → Event → Bool
accepts n e = event_ok n (kind_of e) (who e) (route_of e)

-- an event that is accepted happens or not; every other is turned away, and memory is as it was
abbrev pub Called : (was now : Hall) → Event → Result Bool Refusal → Type 0
Called was now e (Ok done) = (accepts (length was.field.bays.now) e ≡ true) × Takes was now e done
Called was now e (Err r) =
    (accepts (length was.field.bays.now) e ≡ false) × (r ≡ refusal.Event) × (now.memory.now ≡ was.memory.now)
