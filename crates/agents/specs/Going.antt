-- Who can go. Agents are the numbers below n; `w i j` says that j blocks i, where i and j are different; `k i` says that i is closed, and
-- so stays where it is.
use Rattle.std.specs.Prelude.{◌≡◌, ℕ, zero, suc, ◌<◌, Bool, true, false, cond, not, ◌&&◌, ◌||◌, ◌⊎◌, List, [], ◌∷◌, ◌==◌, ◌≢◌, nat_lt}
use Rattle.agents.specs.Numbers.{among, all_to}

-- nobody is closed
abbrev pub nobody : ℕ → Bool
nobody i = false

-- can go, one after the other: i is not closed, and every other that blocks it can go
pub data CanGo (n : ℕ) (w : ℕ → ℕ → Bool) (k : ℕ → Bool) : ℕ → Type 0 where
  goes : (i : ℕ) → i < n → k i ≡ false → ((j : ℕ) → j < n → i ≢ j → w i j ≡ true → CanGo n w k j) → CanGo n w k i

-- waits, by a chain of blockers, for a closed one
pub data Waits (n : ℕ) (w : ℕ → ℕ → Bool) (k : ℕ → Bool) : ℕ → Type 0 where
  closed : (i : ℕ) → i < n → k i ≡ true → Waits n w k i
  behind : (i j : ℕ) → i < n → j < n → i ≢ j → w i j ≡ true → Waits n w k j → Waits n w k i

-- i is clear of the list: no other of the list blocks i
unfoldable pub clear : (ℕ → ℕ → Bool) → ℕ → List ℕ → Bool
clear w i [] = true
clear w i (j ∷ js) = (i == j || not (w i j)) && clear w i js

-- i can go at once, before any other of the list
abbrev pub at_once : (ℕ → ℕ → Bool) → (ℕ → Bool) → List ℕ → ℕ → Bool
at_once w k is i = not (k i) && clear w i is

-- the list `left` without its first that can go at once before all of `all`
unfoldable pub take_out : (ℕ → ℕ → Bool) → (ℕ → Bool) → (all left : List ℕ) → List ℕ
take_out w k all [] = []
take_out w k all (i ∷ is) = cond (at_once w k all i) is (i ∷ take_out w k all is)

-- who is left of the list after taking out, so many times, the first that can go at once
unfoldable pub left_over : ℕ → (ℕ → ℕ → Bool) → (ℕ → Bool) → List ℕ → List ℕ
left_over zero w k is = is
left_over (suc m) w k is = left_over m w k (take_out w k is is)

-- the same as CanGo, by trying: i is not left over
unfoldable pub can_go : ℕ → (ℕ → ℕ → Bool) → (ℕ → Bool) → ℕ → Bool
can_go n w k i = nat_lt i n && not (among i (left_over n w k (all_to n)))

-- of a set of agents, given by a test: whoever is not in it can go
abbrev pub OthersGo : (n : ℕ) (w : ℕ → ℕ → Bool) (k : ℕ → Bool) (In : ℕ → Bool) → Type 0
OthersGo n w k In = (i : ℕ) → i < n → In i ≡ false → CanGo n w k i

-- and nobody in it can go at once: each is closed or blocked by another in it
abbrev pub NoneFree : (n : ℕ) (w : ℕ → ℕ → Bool) (k : ℕ → Bool) (In : ℕ → Bool) → Type 0
NoneFree n w k In = (i : ℕ) → i < n → In i ≡ true → (k i ≡ true) ⊎ ((j : ℕ) × (j < n) × (i ≢ j) × (In j ≡ true) × (w i j ≡ true))
