-- What is a route in the small hall.
use Rattle.std.specs.Prelude.{◌≡◌, true, false, [], ◌∷◌}
use Rattle.rules.specs.Route.{route_ok}
use Rattle.examples.specs.Hall.{hall}

-- routes of shuttle 0 of the small hall, whose bay is 0
pub record SomeRoutes : Type 0 where
  -- out and back
  pub out_and_back : route_ok hall 0 0 (1 ∷ 0 ∷ []) ≡ true
  -- no square at all, in the bay
  pub nowhere : route_ok hall 0 0 [] ≡ true
  -- not over the other's bay
  pub no_other_bay : route_ok hall 0 0 (1 ∷ 2 ∷ 3 ∷ 2 ∷ 1 ∷ 0 ∷ []) ≡ false
  -- not over its own bay before the end
  pub no_own_bay : route_ok hall 0 0 (1 ∷ 0 ∷ 1 ∷ 0 ∷ []) ≡ false
  -- not to a square that isn't beside
  pub no_jump : route_ok hall 0 0 (5 ∷ 4 ∷ 0 ∷ []) ≡ false
  -- not past the end of a row into the next
  pub no_wrap : route_ok hall 1 3 (4 ∷ 5 ∷ 6 ∷ 7 ∷ 3 ∷ []) ≡ false
  -- not to an end outside the bay
  pub no_end_outside : route_ok hall 0 0 (1 ∷ 2 ∷ []) ≡ false
  -- no square at all, outside the bay
  pub no_rest_outside : route_ok hall 0 1 [] ≡ false
