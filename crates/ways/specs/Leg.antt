-- One leg of a way, which leads to the next square of a row: numbers that bound it, and the walk along which they fall.
use Rattle.std.specs.Prelude.{◌≡◌, ◌≢◌, ℕ, suc, ◌<◌, ◌≤◌, Bool, true, ◌⊎◌, List, [], ◌∷◌, ◌++◌}
use Rattle.rules.specs.Field.{Field, beside}
use Rattle.ways.specs.Order.{turn}
use Rattle.ways.specs.Good.{enter}

-- numbers for the squares of a leg from c₀ to g: 0 at g, and at most one less after each step
pub record Bounds (f : Field) (g : ℕ) (end : Bool) (c₀ : ℕ) (P : ℕ → ℕ) : Type 0 where
  pub at_goal : P g ≡ 0
  pub lower : (c d : ℕ) → (c ≡ c₀) ⊎ (enter f g end c ≡ true) → beside f c d ≡ true → enter f g end d ≡ true → P c ≤ suc (P d)

-- d is one nearer than c, and no square that an earlier step leads to is
pub record Nearer (f : Field) (g : ℕ) (end : Bool) (P : ℕ → ℕ) (c d : ℕ) : Type 0 where
  pub off : c ≢ g
  pub next : beside f c d ≡ true
  pub enters : enter f g end d ≡ true
  pub one : P c ≡ suc (P d)
  pub first : (e : ℕ) → beside f c e ≡ true → enter f g end e ≡ true → turn f c e < turn f c d → P c ≤ P e

-- a walk from c to g by such steps
abbrev pub Falls : Field → ℕ → Bool → (ℕ → ℕ) → ℕ → List ℕ → Type 0
Falls f g end P c [] = c ≡ g
Falls f g end P c (d ∷ ds) = Nearer f g end P c d × Falls f g end P d ds

-- a walk from s has come to its goal and is written down after what was there before
pub record Walked (f : Field) (g : ℕ) (end : Bool) (P : ℕ → ℕ) (s : ℕ) (before made : List ℕ) : Type 0 where
  pub walk : List ℕ
  pub falls : Falls f g end P s walk
  pub written : made ≡ before ++ walk
