-- A table of distances and a queue, for a leg of the code.
use Rattle.std.specs.Prelude.{◌≡◌, ◌≢◌, ℕ, suc, ◌+◌, ◌<◌, ◌≤◌, List, length, Option, MatchOption}
use Rattle.field.specs.Model.{field_of}
use Rattle.ways.specs.Leg.{Bounds, Nearer, Walked}
use Rattle.ways.specs.Distances.{Distances, Prepared, Spreading, capped, distance_in, unknown}
use Rattle.way.specs.declared.leg.Leg.{Leg}

-- only the goal is known
abbrev pub Ready : Leg → List ℕ → Type 0
Ready l table = Prepared (field_of l.field) l.goal l.last l.start table

-- the distances to the leg's goal spread, until they come to its start
abbrev pub Spreads : Leg → List ℕ → List ℕ → ℕ → Type 0
Spreads l table queue head = Spreading (field_of l.field) l.goal l.last l.start table queue head

-- a square is left in the queue, and the start is not known
pub record Waiting (l : Leg) (table queue : List ℕ) (head : ℕ) : Type 0 where
  pub left : head < length queue
  pub room : length queue + unknown table ≤ 4096
  pub far : distance_in table l.start ≡ 65535
  pub spreading : Spreads l table queue head

-- the distances are known
abbrev pub Measured : Leg → List ℕ → Type 0
Measured l table = Distances (field_of l.field) l.goal l.last l.start (distance_in table)

-- no route reaches the goal by fewer steps than n, nor does the walk along the distances
abbrev pub Bounded : Leg → ℕ → Type 0
Bounded l n = (P : ℕ → ℕ) × Bounds (field_of l.field) l.goal l.last l.start P × (P l.start ≡ n)

-- the start's distance, or that no route of at most 65534 steps reaches the goal
abbrev pub Distance : Leg → List ℕ → Option ℕ → Type 0
Distance l table answer = MatchOption answer (Bounded l 65535) (λ n. Measured l table × (distance_in table l.start ≡ n))

-- the walk stands on square c, before the goal
pub record Standing (l : Leg) (table : List ℕ) (c : ℕ) : Type 0 where
  pub measured : Measured l table
  pub off : c ≢ l.goal
  pub known : distance_in table c < 65534
  pub most : distance_in table c ≤ distance_in table l.start

-- d is the first square beside c, by right, down, left, up, that is one nearer to the goal
abbrev pub Nears : Leg → List ℕ → ℕ → ℕ → Type 0
Nears l table c d =
    Nearer (field_of l.field) l.goal l.last (capped (distance_in table) l.start) c d × (suc (distance_in table d) ≡ distance_in table c)

-- the leg's squares are written down after what was there before
abbrev pub Written : Leg → List ℕ → List ℕ → List ℕ → Type 0
Written l table before made = Walked (field_of l.field) l.goal l.last (capped (distance_in table) l.start) l.start before made
