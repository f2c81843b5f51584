-- Routes that meet what is left of a row, the best of them, and which squares may be entered on the way to the next square of the row.
use Rattle.std.specs.Prelude.{◌≡◌, ℕ, ◌≤◌, Bool, true, cond, not, ◌&&◌, ◌||◌, ◌⊎◌, List, [], ◌∷◌, length, ◌==◌}
use Rattle.rules.specs.Tests.{is_empty}
use Rattle.rules.specs.Field.{Field, is_bay, free_square}
use Rattle.rules.specs.Route.{route_ok}
use Rattle.ways.specs.Order.{before}

-- a row without the squares at its front that are c
unfoldable pub past : ℕ → List ℕ → List ℕ
past c [] = []
past c (g ∷ gs) = cond (c == g) (past c gs) (g ∷ gs)

-- what is left of a row after square c and then the squares r
unfoldable pub unmet : ℕ → List ℕ → List ℕ → List ℕ
unmet c [] gs = past c gs
unmet c (d ∷ ds) gs = unmet d ds (past c gs)

-- g is met last: nothing but g itself is left with it
unfoldable pub final : ℕ → List ℕ → Bool
final g rest = is_empty (past g rest)

-- square d may be entered on the way to square g: it is free and no bay, or it is g and all else has been met then
unfoldable pub enter : Field → ℕ → Bool → ℕ → Bool
enter f g end d = free_square f d && (not (is_bay f d) || (d == g && end))

-- r is a route of shuttle i from square c that meets what is left of a row
pub record Good (f : Field) (i c : ℕ) (gs r : List ℕ) : Type 0 where
  pub route : route_ok f i c r ≡ true
  pub met : unmet c r gs ≡ []

-- w is the first of the shortest good ones
pub record Best (f : Field) (i c : ℕ) (gs w : List ℕ) : Type 0 where
  pub good : Good f i c gs w
  pub least : (r : List ℕ) → Good f i c gs r → length w ≤ length r
  pub first : (r : List ℕ) → Good f i c gs r → length r ≡ length w → (r ≡ w) ⊎ (before f c w r ≡ true)

-- a row that is not empty ends in b
abbrev pub Ends : ℕ → List ℕ → Type 0
Ends b [] = Unit {0}
Ends b (g ∷ []) = g ≡ b
Ends b (g ∷ (h ∷ hs)) = Ends b (h ∷ hs)
