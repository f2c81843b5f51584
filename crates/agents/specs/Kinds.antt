-- Fleets of agents of any type S that hold places (numbers), and the one rule by which a change of an agent is granted.
use Rattle.std.specs.Prelude.{◌≡◌, ℕ, zero, suc, ◌+◌, ◌<◌, Bool, false, cond, not, ◌&&◌, ◌||◌, List, ◌==◌, ◌≢◌}
use Rattle.agents.specs.Numbers.{meets, all_below}
use Rattle.agents.specs.Going.{CanGo, can_go}

-- what the rule has to know of an agent
pub record Kind (S : Type 0) : Type 0 where
  -- the places that it holds now
  pub held : S → List ℕ
  -- the places that it holds once all that it was granted is done
  pub settled : S → List ℕ
  -- the places that the rest of its run touches
  pub needs : S → List ℕ
  -- it has nothing left to do
  pub idle : S → Bool
  -- how many ways there are to close some of the agents
  pub closings : ℕ
  -- it is closed in the closing of that number
  pub shut : ℕ → S → Bool

-- the fleet g with agent k put to s
unfoldable pub put : {S : Type 0} → (ℕ → S) → ℕ → S → ℕ → S
put g k s i = cond (i == k) s (g i)

-- the sum of a measure over the first n agents
unfoldable pub sum_to : {S : Type 0} → (S → ℕ) → (ℕ → S) → ℕ → ℕ
sum_to m g zero = 0
sum_to m g (suc n) = sum_to m g n + m (g n)

-- j blocks i: a place where j settles is one that i needs
unfoldable pub blocks : {S : Type 0} → Kind S → (ℕ → S) → ℕ → ℕ → Bool
blocks K g i j = meets (K.settled (g j)) (K.needs (g i))

-- agent i can go while those are closed of which c holds
unfoldable pub goes_under : {S : Type 0} → Kind S → ℕ → (ℕ → S) → (S → Bool) → ℕ → Bool
goes_under K n g c i = can_go n (blocks K g) (λ j. c (g j)) i

-- everybody can go, nobody being closed
unfoldable pub all_go : {S : Type 0} → Kind S → ℕ → (ℕ → S) → Bool
all_go K n g = all_below n (goes_under K n g (λ _. false))

-- in each closing, whoever can go in g can go in h
unfoldable pub keeps : {S : Type 0} → Kind S → ℕ → (ℕ → S) → (ℕ → S) → Bool
keeps K n g h = all_below K.closings (λ l. all_below n (λ i. not (goes_under K n g (K.shut l) i) || goes_under K n h (K.shut l) i))

-- no agent but i holds any of the places
unfoldable pub free_for : {S : Type 0} → Kind S → ℕ → (ℕ → S) → ℕ → List ℕ → Bool
free_for K n g i cs = all_below n (λ j. i == j || not (meets (K.held (g j)) cs))

-- agent i may change to s and enter the places cs: no other holds any of them, everybody can go after it, and in each closing it keeps
-- whoever can go
unfoldable pub may : {S : Type 0} → Kind S → ℕ → (ℕ → S) → ℕ → List ℕ → S → Bool
may K n g i cs s = free_for K n g i cs && (all_go K n (put g i s) && keeps K n g (put g i s))

-- What the tests above find by trying, as facts:

-- agent i can go while those are closed of which c holds
abbrev pub GoesUnder : {S : Type 0} → Kind S → ℕ → (ℕ → S) → (S → Bool) → ℕ → Type 0
GoesUnder K n g c i = CanGo n (blocks K g) (λ j. c (g j)) i

-- everybody can go, nobody being closed
abbrev pub AllGo : {S : Type 0} → Kind S → ℕ → (ℕ → S) → Type 0
AllGo K n g = (i : ℕ) → i < n → GoesUnder K n g (λ _. false) i

-- whoever can go in g can go in h, while those are closed of which c holds
abbrev pub Kept : {S : Type 0} → Kind S → ℕ → (ℕ → S) → (ℕ → S) → (S → Bool) → Type 0
Kept K n g h c = (i : ℕ) → GoesUnder K n g c i → GoesUnder K n h c i

-- no agent but i holds any of the places
abbrev pub FreeFor : {S : Type 0} → Kind S → ℕ → (ℕ → S) → ℕ → List ℕ → Type 0
FreeFor K n g i cs = (j : ℕ) → j < n → i ≢ j → meets (K.held (g j)) cs ≡ false

-- no two agents hold a place together
abbrev pub Apart : {S : Type 0} → Kind S → ℕ → (ℕ → S) → Type 0
Apart K n g = (i : ℕ) → i < n → FreeFor K n g i (K.held (g i))

-- the grant rule: what `may` tries
pub record Granted {S : Type 0} (K : Kind S) (n : ℕ) (g : ℕ → S) (i : ℕ) (cs : List ℕ) (s : S) : Type 0 where
  pub free : FreeFor K n g i cs
  pub all : AllGo K n (put g i s)
  pub each : (l : ℕ) → l < K.closings → Kept K n g (put g i s) (K.shut l)
