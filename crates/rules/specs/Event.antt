-- What can happen in the hall, when it does, and what it changes.
use Rattle.std.specs.Prelude.{ℕ, Bool, cond, not, ◌&&◌, List, [], ◌∷◌, length, nat_le, nat_lt}
use Rattle.rules.specs.Tests.{is_empty}
use Rattle.rules.specs.Field.{Field}
use Rattle.rules.specs.Route.{route_ok}
use Rattle.rules.specs.Shuttle.{Shuttle, Fleet, held_by_other, put, at_home, ordered, next_square, stepped, arrived}
use Rattle.rules.specs.Safe.{safe}

-- a shuttle is given a route; it asks for its next step; it has come to its square
pub data Event : Type 0 where
  order : ℕ → List ℕ → Event
  step : ℕ → Event
  arrive : ℕ → Event

-- an order is taken: the shuttle stands with nothing left, and the route is one of at most 256 squares from where it is
unfoldable pub takes : Field → Fleet → ℕ → List ℕ → Bool
takes f g i r =
    nat_lt i f.shuttles && (not (g i).moving && (is_empty (g i).route
    && (nat_le (length r) 256 && route_ok f i (g i).at r)))

-- a step is granted: the shuttle stands with something left, nobody else holds its next square, and all is safe after the step
unfoldable pub grants : Field → Fleet → ℕ → Bool
grants f g i =
    nat_lt i f.shuttles && (not (g i).moving && (not (is_empty (g i).route)
    && (not (held_by_other g i (next_square (g i).route) f.shuttles) && safe f.shuttles (put g i (stepped (g i))))))

-- an arrival is one: the shuttle moves
unfoldable pub arrives : Field → Fleet → ℕ → Bool
arrives f g i = nat_lt i f.shuttles && (g i).moving

-- the event happens: the order is taken, the step granted, the arrival one
unfoldable pub does : Field → Fleet → Event → Bool
does f g (order i r) = takes f g i r
does f g (step i) = grants f g i
does f g (arrive i) = arrives f g i

-- whose event it is
unfoldable pub who : Event → ℕ
who (order i r) = i
who (step i) = i
who (arrive i) = i

-- what it makes of that shuttle
unfoldable pub becomes : Event → Shuttle → Shuttle
becomes (order i r) s = ordered s r
becomes (step i) s = stepped s
becomes (arrive i) s = arrived s

-- the fleet after an event; what does not happen changes nothing
unfoldable pub happens : Field → Fleet → Event → Fleet
happens f g e = cond (does f g e) (put g (who e) (becomes e (g (who e)))) g

-- the fleet after a row of events, the latest first, from all at home
unfoldable pub after : Field → List Event → Fleet
after f [] = at_home f
after f (e ∷ es) = happens f (after f es) e
