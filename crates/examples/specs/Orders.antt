-- Which orders are taken, and what is left of them.
use Rattle.std.specs.Prelude.{◌≡◌, ℕ, zero, suc, true, false, List, [], ◌∷◌, length}
use Rattle.rules.specs.Tests.{is_empty}
use Rattle.rules.specs.Field.{Field}
use Rattle.rules.specs.Shuttle.{Fleet, at_home, ordered}
use Rattle.rules.specs.Event.{takes}
use Rattle.examples.specs.Hall.{hall, standing}

-- an order is taken only by a shuttle that stands, and with nothing left, in any fleet on any field
abbrev pub TakenOnlyWhenIdle : Type 0
TakenOnlyWhenIdle =
    (f : Field) (g : Fleet) (i : ℕ) (r : List ℕ)
    → ((g i).moving ≡ true → takes f g i r ≡ false) × (is_empty (g i).route ≡ false → takes f g i r ≡ false)

-- n times over 1 and 2, and back over 1 to 0
unfoldable pub back_and_forth : ℕ → List ℕ
back_and_forth zero = 1 ∷ 0 ∷ []
back_and_forth (suc n) = 1 ∷ 2 ∷ back_and_forth n

-- a route of 256 squares is taken, and one of 258 is not
abbrev pub LongestRoute : Type 0
LongestRoute =
    (length (back_and_forth 127) ≡ 256) × (takes hall (at_home hall) 0 (back_and_forth 127) ≡ true)
    × (takes hall (at_home hall) 0 (back_and_forth 128) ≡ false)

-- a shuttle that is given a route stands on its square, and has its own square behind it, whatever it had behind it before
abbrev pub OrderStands : Type 0
OrderStands = ordered (record { at = 1; moving = false; behind = 5; route = [] }) (0 ∷ []) ≡ standing 1 (0 ∷ [])
