-- Events, as the code tests them.
use Rattle.std.proofs.Common.{◌≡◌, ℕ, ◌<◌, true, ◌&&◌, ltb, leb, List, length, ap, arith}
use mathlib.Core.Path.{fun_ext}
use Rattle.std.proofs.lemmas.Bool.{lt-ltb}
use Rattle.std.proofs.lemmas.Bool.Decides.{nat_tests}
use Rattle.rules.specs.Tests.{every}
use Rattle.rules.specs.Event.{arrives, who}
use Rattle.rules.specs.Memory.{field_in, shuttle_in, event_ok}
use Rattle.calls.specs.Call.{kind_of, route_of}
use Rattle.field.specs.Model.{field_of}
use Rattle.memory.specs.declared.hall.Hall.{Hall}
use Rattle.memory.specs.Shuttles.{kept_at}
use Rattle.hall.specs.declared.event.Event.{Event as Called}
use Rattle.hall.specs.declared.event.Event.TheVariants.{Order, Step, Arrive}
use Rattle.hall.specs.Event.{event_of, short}
use Rattle.hall.specs.Call.{accepts}

pub event_is : (n kind i : ℕ) (r : List ℕ)
    → event_ok n kind i r ≡ (leb kind 2 && (ltb i n && (leb (length r) 256 && every (λ c. ltb c 4096) r)))
unfolding event_ok
event_is n kind i r =
    let small : (λ x. leb x 4095) ≡ (λ x. ltb x 4096) = fun_ext (λ x. grind (arith, nat_tests)) in
    ap (λ p. leb kind 2 && (ltb i n && (leb (length r) 256 && every p r))) small

-- a shuttle of the hall arrives exactly if it moves
pub arrives_is : (h : Hall) (i : ℕ) → i < length h.field.bays.now
    → arrives (field_of h.field) (shuttle_in h.memory.now) i ≡ (kept_at h.memory.now i).moving
unfolding arrives shuttle_in field_in
arrives_is h i l = let there = lt-ltb i (length h.field.bays.now) l in rw there

-- the shuttle of an accepted event is there
pub event_there : (n kind i : ℕ) (r : List ℕ) → event_ok n kind i r ≡ true → i < n
unfolding event_ok
event_there n kind i r h = grind (arith, nat_tests)

-- an event that is accepted is one of a shuttle that is there, and an order has at most 256 squares
pub accepted_is : (n i : ℕ) (e : Called) → accepts n (event_of i e) ≡ true → (i < n) × short e
unfolding event_ok who kind_of route_of
accepted_is n i (Order r) h = (grind (arith, nat_tests), grind (arith, nat_tests))
accepted_is n i Step h = (grind (arith, nat_tests), tt)
accepted_is n i Arrive h = (grind (arith, nat_tests), tt)
