-- The ways through a row of squares, and the first of the shortest.
use Rattle.std.specs.Prelude.{◌≡◌, ℕ, ◌≤◌, true, List, ◌∷◌, length, ◌≢◌}
use Rattle.rules.specs.Field.{Field}
use Rattle.rules.specs.Route.{route_ok}
use Rattle.ways.specs.Visit.{Visits}
use Rattle.ways.specs.Order.{before}

-- r is a route of shuttle i from square c of at most 256 squares, and c and r visit the row
pub record Through (f : Field) (i c : ℕ) (row r : List ℕ) : Type 0 where
  pub route : route_ok f i c r ≡ true
  pub short : length r ≤ 256
  pub visits : Visits (c ∷ r) row

-- r is the one that is asked for: it leads through the row, none that does is shorter, and every other one that is as long comes later
pub record Shortest (f : Field) (i c : ℕ) (row r : List ℕ) : Type 0 where
  pub through : Through f i c row r
  pub least : (s : List ℕ) → Through f i c row s → length r ≤ length s
  pub first : (s : List ℕ) → Through f i c row s → length s ≡ length r → s ≢ r → before f c r s ≡ true

-- there is none
abbrev pub Nowhere : Field → ℕ → ℕ → List ℕ → Type 0
Nowhere f i c row = (s : List ℕ) → Through f i c row s → ⊥
