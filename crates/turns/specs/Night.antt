-- A night: before each tick orders may be given, and then the tick is made.
use Rattle.std.specs.Prelude.{◌≡◌, ℕ, zero, suc, cond, List}
use Rattle.rules.specs.Tests.{is_empty}
use Rattle.rules.specs.Field.{Field}
use Rattle.rules.specs.Shuttle.{Fleet}
use Rattle.rules.specs.Event.{Event, order, happens, after}
use Rattle.turns.specs.Tick.{Turn, tick}

-- shuttle i is given its route, unless that is empty; an order that is not taken changes nothing
unfoldable pub give : Field → (routes : ℕ → List ℕ) → ℕ → Fleet → Fleet
give f routes i g = cond (is_empty (routes i)) g (happens f g (order i (routes i)))

-- the first k shuttles are given theirs
unfoldable pub give_to : Field → Fleet → (routes : ℕ → List ℕ) → ℕ → Fleet
give_to f g routes zero = g
give_to f g routes (suc k) = give f routes k (give_to f g routes k)

-- each is given its own
unfoldable pub all_given : Field → Fleet → (routes : ℕ → List ℕ) → Fleet
all_given f g routes = give_to f g routes f.shuttles

-- a tick after these orders
unfoldable pub next : Field → Turn → (routes : ℕ → List ℕ) → (marks : List ℕ) → Turn
next f s routes marks = tick f (all_given f s.fleet routes) s.waits marks

-- so many ticks, with the orders and the marks of each
unfoldable pub night : Field → Turn → (orders : ℕ → ℕ → List ℕ) → (marks : ℕ → List ℕ) → ℕ → Turn
night f s orders marks zero = s
night f s orders marks (suc t) = next f (night f s orders marks t) (orders t) (marks t)

-- from a row of events each fleet of a night is one after a row of events, so that all that is promised of rows holds of it
abbrev pub NightsAreRows : Type 0
NightsAreRows =
    (f : Field) (es : List Event) (s : Turn) (orders : ℕ → ℕ → List ℕ) (marks : ℕ → List ℕ) (t : ℕ) → s.fleet ≡ after f es
    → (rs : List Event) × ((night f s orders marks t).fleet ≡ after f rs)
