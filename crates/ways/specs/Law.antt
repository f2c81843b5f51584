-- Laws of ways, which the check asks for.
use Rattle.std.specs.Prelude.{◌≡◌, ℕ, true, false, List}
use Rattle.rules.specs.Field.{Field}
use Rattle.ways.specs.Order.{before}
use Rattle.ways.specs.Shortest.{Shortest}

-- of two routes that differ at most one comes before the other
abbrev pub OneWay : Type 0
OneWay = (f : Field) (c : ℕ) (r s : List ℕ) → before f c r s ≡ true → before f c s r ≡ false

-- only one route is the first of the shortest
abbrev pub OnlyOne : Type 0
OnlyOne = (f : Field) (i c : ℕ) (row r s : List ℕ) → Shortest f i c row r → Shortest f i c row s → r ≡ s
