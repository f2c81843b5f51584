-- Coming home by ticks alone: after any row of events, for every choice among the steps that are granted, and so by the rule of ticks.
use Rattle.std.specs.Prelude.{◌≡◌, ℕ, zero, suc, ◌*◌, ◌<◌, ◌≤◌, max, true, false, ◌⊎◌, List}
use Rattle.rules.specs.Field.{Field, sound}
use Rattle.rules.specs.Shuttle.{Fleet}
use Rattle.rules.specs.Event.{Event, step, grants, happens, after}
use Rattle.promise.specs.Promise.{AllHome, sum_to, squares_left}
use Rattle.turns.specs.Tick.{is_due, all_come, Turn, tick}
use Rattle.turns.specs.Bound.{ComesWithin}

-- a tick by any choice: the arrivals that are due are made, then a step that is granted, or none where none is
pub record AnyTick (f : Field) (g : Fleet) (marks : List ℕ) (whose : ℕ) (h : Fleet) : Type 0 where
  pub made : h ≡ happens f (all_come f g marks) (step whose)
  pub right : (grants f (all_come f g marks) whose ≡ true)
      ⊎ ((whose ≡ f.shuttles) × ((i : ℕ) → i < f.shuttles → grants f (all_come f g marks) i ≡ false))

-- each arrival comes within d ticks of its step, and of the start if the shuttle moves then; `fleets t` is the fleet after t ticks
abbrev pub ArrivalsWithin : Field → (fleets : ℕ → Fleet) (marks : ℕ → List ℕ) (whose : ℕ → ℕ) (d : ℕ) → Type 0
ArrivalsWithin f fleets marks whose d = ComesWithin f.shuttles (λ t i. (fleets t i).moving) (λ t i. is_due (marks t) i) whose d

-- after any row of events, by ticks of any choice, all are home after (L + 1) · max(d, 1) ticks, L being the squares left in sum
abbrev pub HomeInTime : Type 0
HomeInTime =
    (f : Field) (es : List Event) (fleets : ℕ → Fleet) (marks : ℕ → List ℕ) (whose : ℕ → ℕ) (d : ℕ) → sound f ≡ true
    → fleets 0 ≡ after f es → ((t : ℕ) → AnyTick f (fleets t) (marks t) (whose t) (fleets (suc t))) → ArrivalsWithin f fleets marks whose d
    → (t : ℕ) → suc (sum_to squares_left (after f es) f.shuttles) * max d 1 ≤ t → AllHome f (fleets t)

-- so many ticks, one after the other, with no order between them
unfoldable pub ticks : Field → Turn → (ℕ → List ℕ) → ℕ → Turn
ticks f s marks zero = s
ticks f s marks (suc t) = tick f (ticks f s marks t).fleet (ticks f s marks t).waits (marks t)

-- and so by the rule of ticks, with any waits at the start
abbrev pub HomeByTicks : Type 0
HomeByTicks =
    (f : Field) (es : List Event) (s : Turn) (marks : ℕ → List ℕ) (d : ℕ) → sound f ≡ true → s.fleet ≡ after f es
    → ArrivalsWithin f (λ t. (ticks f s marks t).fleet) marks (λ t. (ticks f s marks (suc t)).whose) d
    → (t : ℕ) → suc (sum_to squares_left (after f es) f.shuttles) * max d 1 ≤ t → AllHome f (ticks f s marks t).fleet
