-- Small tests over lists and over the numbers below a bound, of which the other definitions are made.
use Rattle.std.specs.Prelude.{ℕ, zero, suc, Bool, true, false, ◌&&◌, ◌||◌, List, [], ◌∷◌, ◌==◌}

-- p holds of each number below n
unfoldable pub every_to : (ℕ → Bool) → ℕ → Bool
every_to p zero = true
every_to p (suc n) = p n && every_to p n

-- p holds of some number below n
unfoldable pub any_to : (ℕ → Bool) → ℕ → Bool
any_to p zero = false
any_to p (suc n) = p n || any_to p n

-- p holds of each element
unfoldable pub every : (ℕ → Bool) → List ℕ → Bool
every p [] = true
every p (x ∷ xs) = p x && every p xs

-- x is one of the elements
unfoldable pub among : ℕ → List ℕ → Bool
among x [] = false
among x (y ∷ ys) = x == y || among x ys

-- there are none
unfoldable pub is_empty : List ℕ → Bool
is_empty [] = true
is_empty (x ∷ xs) = false
