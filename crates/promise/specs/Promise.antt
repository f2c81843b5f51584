-- What is promised of every row of events. Each statement is a type; a function of src/ names it in its contract, so that its proof is owed.
-- Rows are given latest first.
use Rattle.std.specs.Prelude.{◌≡◌, ℕ, zero, suc, ◌+◌, ◌*◌, ◌<◌, ◌≤◌, Bool, true, false, cond, ◌⊎◌, List, [], ◌∷◌, ◌++◌, length, ◌≢◌}
use Rattle.rules.specs.Tests.{is_empty}
use Rattle.rules.specs.Field.{Field, free_square, sound, beside}
use Rattle.rules.specs.Route.{route_ok}
use Rattle.rules.specs.Shuttle.{Shuttle, Fleet, holds, held_by_other, put, at_home, next_square, stepped}
use Rattle.rules.specs.Safe.{Safe, safe}
use Rattle.rules.specs.Event.{Event, order, step, arrive, takes, grants, does, after}

-- no two shuttles ever hold a square together
abbrev pub Apart : Type 0
Apart =
    (f : Field) (es : List Event) (i j c : ℕ) → sound f ≡ true → i < f.shuttles → j < f.shuttles → i ≢ j
    → holds (after f es i) c ≡ true → holds (after f es j) c ≢ true

-- some shuttle is on its way
abbrev pub SomeMoves : Field → Fleet → Type 0
SomeMoves f g = (j : ℕ) × (j < f.shuttles) × ((g j).moving ≡ true)

-- some step is granted
abbrev pub SomeGranted : Field → Fleet → Type 0
SomeGranted f g = (j : ℕ) × (j < f.shuttles) × (grants f g j ≡ true)

-- never stuck: as long as any shuttle has something left, some shuttle is on its way or some step is granted
abbrev pub NeverStuck : Type 0
NeverStuck =
    (f : Field) (es : List Event) (i : ℕ) → sound f ≡ true → i < f.shuttles → is_empty (after f es i).route ≡ false
    → SomeMoves f (after f es) ⊎ SomeGranted f (after f es)

-- all stand in their bays with nothing left
abbrev pub AllHome : Field → Fleet → Type 0
AllHome f g = (i : ℕ) → i < f.shuttles → g i ≡ at_home f i

-- an event that gives no order
unfoldable pub no_order : Event → Bool
no_order (order i r) = false
no_order (step i) = true
no_order (arrive i) = true

-- a row in which each event happens and none is an order, after the row es
pub data Drives (f : Field) (es : List Event) : List Event → Type 0 where
  nothing : Drives f es []
  then : (e : Event) (ds : List Event) → no_order e ≡ true → does f (after f (ds ++ es)) e ≡ true → Drives f es ds → Drives f es (e ∷ ds)

-- there is always a row of steps and arrivals, each of which happens, after which all are home
abbrev pub WayHome : Type 0
WayHome =
    (f : Field) (es : List Event) → sound f ≡ true → (ds : List Event) × Drives f es ds × AllHome f (after f (ds ++ es))

-- a measure of the first n shuttles, in sum
unfoldable pub sum_to : (Shuttle → ℕ) → Fleet → ℕ → ℕ
sum_to m g zero = 0
sum_to m g (suc i) = sum_to m g i + m (g i)

-- squares left to go
unfoldable pub squares_left : Shuttle → ℕ
squares_left s = length s.route

-- events left: a step and an arrival for each square left, and an arrival for one that moves
unfoldable pub events_left : Shuttle → ℕ
events_left s = 2 * length s.route + cond s.moving 1 0

-- every granted step leaves exactly one square less to go
abbrev pub LessLeft : Type 0
LessLeft =
    (f : Field) (es : List Event) (i : ℕ) → grants f (after f es) i ≡ true
    → suc (sum_to squares_left (after f (step i ∷ es)) f.shuttles) ≡ sum_to squares_left (after f es) f.shuttles

-- whichever steps and arrivals are made, each leaves exactly one event less
abbrev pub WorkFalls : Type 0
WorkFalls =
    (f : Field) (es ds : List Event) → Drives f es ds
    → length ds + sum_to events_left (after f (ds ++ es)) f.shuttles ≡ sum_to events_left (after f es) f.shuttles

-- and where no step and no arrival can be made, all are home; so all come home whichever are made
abbrev pub EndsHome : Type 0
EndsHome =
    (f : Field) (es : List Event) → sound f ≡ true → ((i : ℕ) → i < f.shuttles → does f (after f es) (step i) ≡ false)
    → ((i : ℕ) → i < f.shuttles → does f (after f es) (arrive i) ≡ false) → AllHome f (after f es)

-- an order for a shuttle that stands with nothing left is always taken if its route is one from its bay, whatever the others do, and is then what it has left
abbrev pub AlwaysTaken : Type 0
AlwaysTaken =
    (f : Field) (es : List Event) (i : ℕ) (r : List ℕ) → sound f ≡ true → i < f.shuttles → (after f es i).moving ≡ false
    → is_empty (after f es i).route ≡ true → length r ≤ 256 → route_ok f i (f.bay i) r ≡ true
    → (takes f (after f es) i r ≡ true) × ((after f (order i r ∷ es) i).route ≡ r)

-- it is always safe
abbrev pub AlwaysSafe : Type 0
AlwaysSafe = (f : Field) (es : List Event) → sound f ≡ true → Safe f.shuttles (after f es)

-- taking out, again and again, is right: it succeeds exactly if an order exists, for every fleet
abbrev pub TryingIsRight : Type 0
TryingIsRight = (n : ℕ) (g : Fleet) → (safe n g ≡ true → Safe n g) × (Safe n g → safe n g ≡ true)

-- where a shuttle may be: on a free square, with a route from there left; while it moves, beside the free square it comes from, and else with its own square behind it
pub record Placed (f : Field) (i : ℕ) (s : Shuttle) : Type 0 where
  pub on_field : free_square f s.at ≡ true
  pub on_route : route_ok f i s.at s.route ≡ true
  pub comes_from : s.moving ≡ true → (beside f s.behind s.at ≡ true) × (free_square f s.behind ≡ true)
  pub stands_on : s.moving ≡ false → s.behind ≡ s.at

-- each shuttle is always where it may be
abbrev pub AlwaysPlaced : Type 0
AlwaysPlaced = (f : Field) (es : List Event) (i : ℕ) → sound f ≡ true → i < f.shuttles → Placed f i (after f es i)

-- nothing else is refused: a step that is not granted is one of a shuttle that moves or has nothing left, or its square is held, or all would not be safe
abbrev pub RefusedWhen : Type 0
RefusedWhen =
    (f : Field) (g : Fleet) (i : ℕ) → i < f.shuttles → grants f g i ≡ false
    → ((g i).moving ≡ true) ⊎ ((is_empty (g i).route ≡ true) ⊎ ((held_by_other g i (next_square (g i).route) f.shuttles ≡ true)
    ⊎ (Safe f.shuttles (put g i (stepped (g i))) → ⊥)))
