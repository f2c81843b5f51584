-- Small tests on numbers and lists of numbers that the other definitions use.
use Rattle.std.specs.Prelude.{◌≡◌, ℕ, zero, suc, Bool, true, false, ◌&&◌, ◌||◌, List, [], ◌∷◌, ◌==◌}

-- x is one of the list
unfoldable pub among : ℕ → List ℕ → Bool
among x [] = false
among x (y ∷ ys) = x == y || among x ys

-- some element of the first list is one of the second
unfoldable pub meets : List ℕ → List ℕ → Bool
meets [] ys = false
meets (x ∷ xs) ys = among x ys || meets xs ys

-- each of the first list is one of the second
abbrev pub Within : List ℕ → List ℕ → Type 0
Within xs ys = (c : ℕ) → among c xs ≡ true → among c ys ≡ true

-- the test holds of every number below n
unfoldable pub all_below : ℕ → (ℕ → Bool) → Bool
all_below zero p = true
all_below (suc n) p = p n && all_below n p

-- the numbers below n, the largest first
unfoldable pub all_to : ℕ → List ℕ
all_to zero = []
all_to (suc n) = n ∷ all_to n

-- the list is empty
unfoldable pub nobody_left : List ℕ → Bool
nobody_left [] = true
nobody_left (i ∷ is) = false
