-- What a leg of the code, and all of them, come to.
use Rattle.std.specs.Prelude.{ℕ, ◌+◌, ◌<◌, List, length, Option, MatchOption}
use Rattle.arrayvec.specs.ArrayVec.{ArrayVec}
use Rattle.field.specs.Model.{field_of}
use Rattle.field.specs.declared.field.Field.{Field as Lent}
use Rattle.ways.specs.Good.{Good, Best, Ends}
use Rattle.ways.specs.Leg.{Bounds, Walked}
use Rattle.way.specs.declared.leg.Leg.{Leg}

-- numbers that bound the leg, by which it leads past 256 squares, or along which it has been walked
abbrev pub Driven : Leg → List ℕ → List ℕ → Option (Unit {0}) → Type 0
Driven l before made answer =
    (P : ℕ → ℕ) × Bounds (field_of l.field) l.goal l.last l.start P
    × MatchOption answer (256 < length before + P l.start) (λ _. Walked (field_of l.field) l.goal l.last P l.start before made)

-- the way through a row of goals, for each shuttle in whose bay the row ends: the best, or none of at most 256 squares
abbrev pub Leads : Lent → ℕ → List ℕ → Option (ArrayVec ℕ) → Type 0
Leads f from goals answer =
    (i : ℕ) → Ends ((field_of f).bay i) goals
    → MatchOption answer ((r : List ℕ) → Good (field_of f) i from goals r → 256 < length r) (λ made. Best (field_of f) i from goals made.items)
