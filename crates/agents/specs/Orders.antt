-- Orders in which a list of agents can go, each whole while those that have not gone stay where they are; nobody is closed here.
use Rattle.std.specs.Prelude.{◌≡◌, ℕ, Bool, true, List, [], ◌∷◌, ◌++◌}
use Rattle.agents.specs.Numbers.{nobody_left}
use Rattle.agents.specs.Going.{nobody, clear, left_over}

-- the list can go in some order: somebody that is clear of the rest goes first, then the rest in some order
pub data Runs (w : ℕ → ℕ → Bool) : List ℕ → Type 0 where
  none : Runs w []
  first : (i : ℕ) (before after : List ℕ) → clear w i (before ++ after) ≡ true → Runs w (before ++ after) → Runs w (before ++ (i ∷ after))

-- the same by trying: so many times the first that is clear of all that are left is taken out, and then nobody is left
unfoldable pub try : ℕ → (ℕ → ℕ → Bool) → List ℕ → Bool
try m w is = nobody_left (left_over m w nobody is)
