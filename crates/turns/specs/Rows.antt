-- A tick is a row of events, so that all that is promised of rows holds of ticks; and whose step it grants. Rows are given latest first.
use Rattle.std.specs.Prelude.{◌≡◌, ℕ, suc, ◌<◌, ◌≤◌, Bool, true, false, ◌&&◌, ◌⊎◌, List, [], ◌∷◌, ◌++◌, length, slice_index}
use Rattle.rules.specs.Field.{Field}
use Rattle.rules.specs.Shuttle.{Fleet, arrived}
use Rattle.rules.specs.Event.{Event, order, step, arrive, grants, after}
use Rattle.promise.specs.Promise.{Drives}
use Rattle.turns.specs.Tick.{is_due, all_come, waits, counted, chosen, Turn, tick}

-- the event is an arrival that is due
unfoldable pub due_arrival : List ℕ → Event → Bool
due_arrival marks (order i r) = false
due_arrival marks (step i) = false
due_arrival marks (arrive i) = is_due marks i

-- each event of the row is one
unfoldable pub due_arrivals : List ℕ → List Event → Bool
due_arrivals marks [] = true
due_arrivals marks (e ∷ es) = due_arrival marks e && due_arrivals marks es

-- what a tick does to the row es: the arrivals ds, each of which is due and happens, and then the step of the one that it names, which is
-- granted, or none where no step is granted
pub record IsRow (f : Field) (es : List Event) (marks : List ℕ) (t : Turn) : Type 0 where
  pub ds : List Event
  pub due : due_arrivals marks ds ≡ true
  pub drives : Drives f es ds
  pub come : all_come f (after f es) marks ≡ after f (ds ++ es)
  pub then : ((t.whose < f.shuttles) × (grants f (after f (ds ++ es)) t.whose ≡ true) ×
      (t.fleet ≡ after f (step t.whose ∷ (ds ++ es))))
      ⊎ ((t.whose ≡ f.shuttles) × ((i : ℕ) → i < f.shuttles → grants f (after f (ds ++ es)) i ≡ false) × (t.fleet ≡ after f (ds ++ es)))

-- every tick is such a row
abbrev pub TicksAreRows : Type 0
TicksAreRows = (f : Field) (es : List Event) (ws marks : List ℕ) → IsRow f es marks (tick f (after f es) ws marks)

-- each arrival that is due is made, and nothing else is: a shuttle that moves and is due has come, and every other is as it was
abbrev pub DueCome : Type 0
DueCome =
    (f : Field) (g : Fleet) (marks : List ℕ) (i : ℕ) → i < f.shuttles
    → ((is_due marks i ≡ true) × ((g i).moving ≡ true) × (all_come f g marks i ≡ arrived (g i)))
    ⊎ (((is_due marks i && (g i).moving) ≡ false) × (all_come f g marks i ≡ g i))

-- the waits are counted one by one
abbrev pub WaitsCount : Type 0
WaitsCount =
    (f : Field) (g : Fleet) (ws : List ℕ) (i : ℕ) → i < f.shuttles → f.shuttles ≤ length ws
    → ((waits (g i) ≡ true) × (slice_index (counted f g ws) i ≡ suc (slice_index ws i)))
    ⊎ ((waits (g i) ≡ false) × (slice_index (counted f g ws) i ≡ 0))

-- the chosen one's step is granted, and of all whose steps are granted it has waited longest, and is the lowest of those that have waited as
-- long; none is chosen only where no step is granted
abbrev pub LongestFirst : Type 0
LongestFirst =
    (f : Field) (g : Fleet) (ws : List ℕ) →
    ((chosen f g ws < f.shuttles) × (grants f g (chosen f g ws) ≡ true)
    × ((i : ℕ) → i < f.shuttles → grants f g i ≡ true
    → (slice_index ws i < slice_index ws (chosen f g ws)) ⊎ ((slice_index ws i ≡ slice_index ws (chosen f g ws)) × (chosen f g ws ≤ i))))
    ⊎ ((chosen f g ws ≡ f.shuttles) × ((i : ℕ) → i < f.shuttles → grants f g i ≡ false))
