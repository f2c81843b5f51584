-- Tables of distances to the next square of a row, which spread from it square by square in the order of a queue. A number below
-- 65534 is a distance that is known; 65535 stands for a square that none has come to yet, 65534 for one that none comes to.
use Rattle.std.specs.Prelude.{◌≡◌, ◌≢◌, ℕ, suc, ◌<◌, ◌≤◌, min, Bool, true, cond, not, ◌&&◌, ◌⊎◌, List, length, ◌==◌, slice_index_or}
use Rattle.std.specs.List.{count_by}
use Rattle.rules.specs.Field.{Field, is_bay, free_square, beside}
use Rattle.ways.specs.Good.{enter}

-- the number of a square in a table; a square outside counts as one that none comes to
abbrev pub distance_in : List ℕ → ℕ → ℕ
distance_in table c = slice_index_or table c 65534

-- how many squares none has come to yet
abbrev pub unknown : List ℕ → ℕ
unknown table = count_by (λ x. x == 65535) table

-- a square that is free and nobody's bay
unfoldable pub is_open : Field → ℕ → Bool
is_open f c = free_square f c && not (is_bay f c)

-- the table of such squares: none has come to them yet, and none comes to the others
abbrev pub Ground : Field → List ℕ → Type 0
Ground f table = (x : ℕ) → distance_in table x ≡ cond (is_open f x) 65535 65534

-- the squares of a leg from s to g: the start, and those that may be entered
abbrev pub Seen : Field → ℕ → Bool → ℕ → ℕ → Type 0
Seen f g end s c = (c ≡ s) ⊎ (enter f g end c ≡ true)

-- a step of the leg
abbrev pub Hop : Field → ℕ → Bool → ℕ → ℕ → ℕ → Type 0
Hop f g end s c d = Seen f g end s c × (beside f c d ≡ true) × (enter f g end d ≡ true)

-- the goal has distance 0, every other square of the leg is not known yet, and none comes to the others
pub record Prepared (f : Field) (g : ℕ) (end : Bool) (s : ℕ) (table : List ℕ) : Type 0 where
  pub enters : enter f g end g ≡ true
  pub goal : distance_in table g ≡ 0
  pub marks : (x : ℕ) → x ≢ g
      → (Seen f g end s x × (distance_in table x ≡ 65535)) ⊎ ((Seen f g end s x → ⊥) × (distance_in table x ≡ 65534))

-- where one may go from c to d by `Hop c d`: each square from which one may go to x is at most one farther than x
abbrev pub Done : (ℕ → ℕ → Type 0) → (ℕ → ℕ) → ℕ → Type 0
Done Hop T x = (c : ℕ) → Hop c x → T c ≤ suc (T x)

-- T has distances to g and Q the queue, of which the first h squares are done and the first t are filled; `Seen c` holds of each
-- square that one may go from
pub record Spread (Hop : ℕ → ℕ → Type 0) (Seen : ℕ → Type 0) (g : ℕ) (T Q : ℕ → ℕ) (h t : ℕ) : Type 0 where
  pub order : h ≤ t
  pub small : (j : ℕ) → j < t → T (Q j) ≤ j
  pub sorted : (j k : ℕ) → h ≤ j → j ≤ k → k < t → T (Q j) ≤ T (Q k)
  pub near : h < t → (x : ℕ) → T x < 65534 → T x ≤ suc (T (Q h))
  pub queued : (x : ℕ) → T x < 65534 → Done Hop T x ⊎ ((j : ℕ) × (h ≤ j) × (j < t) × (Q j ≡ x))
  pub falls : (x : ℕ) → T x < 65534 → (x ≡ g) ⊎ ((y : ℕ) × Hop x y × (T x ≡ suc (T y)))
  pub seen : (x : ℕ) → T x < 65534 → Seen x
  pub unseen : (x : ℕ) → T x ≡ 65535 → Seen x
  pub marked : (x : ℕ) → Seen x → (T x < 65534) ⊎ (T x ≡ 65535)
  pub goal : T g ≡ 0

-- a table, and a queue of whose squares the first are done, while distances to g spread, until they come to s
abbrev pub Spreading : Field → ℕ → Bool → ℕ → List ℕ → List ℕ → ℕ → Type 0
Spreading f g end s table queue head =
    Spread (Hop f g end s) (Seen f g end s) g (distance_in table) (λ j. slice_index_or queue j 0) head (length queue)

-- the numbers of T that are below 65534 are distances to g
pub record Distances (f : Field) (g : ℕ) (end : Bool) (s : ℕ) (T : ℕ → ℕ) : Type 0 where
  pub goal : T g ≡ 0
  pub lower : (c d : ℕ) → Hop f g end s c d → suc (T d) < T s → T c ≤ suc (T d)
  pub falls : (c : ℕ) → T c < 65534 → (c ≡ g) ⊎ ((d : ℕ) × Hop f g end s c d × (T c ≡ suc (T d)))
  pub seen : (c : ℕ) → T c < 65534 → Seen f g end s c

-- as numbers that bound the leg, none is above the start's
abbrev pub capped : (ℕ → ℕ) → ℕ → ℕ → ℕ
capped T s c = min (T c) (T s)
