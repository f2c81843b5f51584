-- What the theorems say of the worked examples: what cannot be put in an order, what never comes about, and whose bays stay free.
use Rattle.std.specs.Prelude.{◌≡◌, ℕ, ◌<◌, true, false, List, [], ◌∷◌, ◌≢◌}
use Rattle.rules.specs.Tests.{among}
use Rattle.rules.specs.Field.{Field, sound}
use Rattle.rules.specs.Route.{route_ok}
use Rattle.rules.specs.Safe.{Safe}
use Rattle.rules.specs.Event.{Event, after}
use Rattle.examples.specs.Hall.{hall}
use Rattle.examples.specs.Steps.{blocked_pair}
use Rattle.examples.specs.Wrong.{ring}

-- neither the pair of which each stands on the other's next square nor the ring of six can run home one after the other
abbrev pub NoOrderExists : Type 0
NoOrderExists = (Safe 2 blocked_pair → ⊥) × (Safe 6 ring → ⊥)

-- no row of events whatever leads to the blocked pair, whether they stand or move
abbrev pub BlockedPairNeverComesAbout : Type 0
BlockedPairNeverComesAbout =
    (es : List Event) → (after hall es 0).at ≡ 1 → (after hall es 0).route ≡ 2 ∷ 6 ∷ 5 ∷ 4 ∷ 0 ∷ [] → (after hall es 1).at ≡ 2
    → (after hall es 1).route ≢ 1 ∷ 5 ∷ 6 ∷ 7 ∷ 3 ∷ []

-- a shuttle in its bay blocks nobody: in every sound field nobody else's route leads over that bay
abbrev pub NoRouteOverOtherBays : Type 0
NoRouteOverOtherBays =
    (f : Field) (i j c : ℕ) (r : List ℕ) → sound f ≡ true → i < f.shuttles → j < f.shuttles → j ≢ i
    → route_ok f i c r ≡ true → among (f.bay j) r ≡ false
