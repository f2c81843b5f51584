-- What is safe: an order in which each shuttle can run home past those behind it; and the same found by trying.
use Rattle.std.specs.Prelude.{◌≡◌, ℕ, zero, suc, Bool, true, cond, not, ◌&&◌, ◌||◌, List, [], ◌∷◌, ◌++◌, ◌==◌}
use Rattle.rules.specs.Tests.{among, is_empty}
use Rattle.rules.specs.Shuttle.{Fleet}

-- none of these shuttles but i itself is on a square that i has still to go over
unfoldable pub clear_of : Fleet → ℕ → List ℕ → Bool
clear_of g i [] = true
clear_of g i (j ∷ js) = (i == j || not (among (g j).at (g i).route)) && clear_of g i js

-- these shuttles can run home one after the other, each past those that have not run yet: one that is clear of the others runs first
pub data Runs (g : Fleet) : List ℕ → Type 0 where
  none : Runs g []
  first : (i : ℕ) (before after : List ℕ) → clear_of g i (before ++ after) ≡ true → Runs g (before ++ after)
      → Runs g (before ++ (i ∷ after))

-- the numbers below n, the largest first
unfoldable pub all_to : ℕ → List ℕ
all_to zero = []
all_to (suc n) = n ∷ all_to n

-- all is safe: the first n shuttles can run home one after the other
unfoldable pub Safe : ℕ → Fleet → Type 0
Safe n g = Runs g (all_to n)

-- the list without its first i
unfoldable pub without : ℕ → List ℕ → List ℕ
without i [] = []
without i (j ∷ js) = cond (i == j) js (j ∷ without i js)

-- the first of `some` that is clear of all of `all`, or nobody
unfoldable pub first_clear : Fleet → (all some : List ℕ) → List ℕ
first_clear g all [] = []
first_clear g all (i ∷ is) = cond (clear_of g i all) (i ∷ []) (first_clear g all is)

-- what f says of the one found, or `otherwise` where nobody was
unfoldable pub on_first : List ℕ → (ℕ → Bool) → Bool → Bool
on_first [] f otherwise = otherwise
on_first (i ∷ is) f otherwise = f i

-- again and again, up to n times, the first that can run is taken out: are none left?
unfoldable pub try : ℕ → Fleet → List ℕ → Bool
try zero g is = is_empty is
try (suc n) g is = on_first (first_clear g is is) (λ i. try n g (without i is)) (is_empty is)

-- all is safe, found by trying
unfoldable pub safe : ℕ → Fleet → Bool
safe n g = try n g (all_to n)
