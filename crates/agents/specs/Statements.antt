-- What is proved of agents that block each other. Each statement is a type; a function of src/ names it in its contract, so that its proof
-- is owed.
use Rattle.std.specs.Prelude.{◌≡◌, ℕ, ◌<◌, Bool, true, false, not, ◌⊎◌, ◌↔◌, List, ◌++◌, ◌≢◌}
use Rattle.agents.specs.Numbers.{all_to, Within}
use Rattle.agents.specs.Going.{CanGo, Waits, nobody, can_go, OthersGo, NoneFree}
use Rattle.agents.specs.Orders.{Runs, try}
use Rattle.agents.specs.Kinds.{Kind, put, blocks, may, GoesUnder, AllGo, Kept, Apart, Granted}

-- taking out the first that can go at once, again and again, finds exactly those who can go
abbrev pub TakingOutIsRight : Type 0
TakingOutIsRight = (n : ℕ) (w : ℕ → ℕ → Bool) (k : ℕ → Bool) (i : ℕ) → (can_go n w k i ≡ true) ↔ CanGo n w k i

-- taking out in any order finds the same: where all outside of a set can go and nobody in it can go at once, it is the set of those who
-- cannot go
abbrev pub AnyOrderIsRight : Type 0
AnyOrderIsRight =
    (n : ℕ) (w : ℕ → ℕ → Bool) (k : ℕ → Bool) (In : ℕ → Bool) → OthersGo n w k In → NoneFree n w k In →
    (i : ℕ) → i < n → can_go n w k i ≡ not (In i)

-- so with nobody closed trying leaves nobody exactly if the set is empty
abbrev pub AnyOrderTries : Type 0
AnyOrderTries =
    (n : ℕ) (w : ℕ → ℕ → Bool) (In : ℕ → Bool) → OthersGo n w nobody In → NoneFree n w nobody In →
    (try n w (all_to n) ≡ true) ↔ ((i : ℕ) → i < n → In i ≡ false)

-- an order in which all go exists exactly if trying leaves nobody, and exactly if everybody can go
abbrev pub OrdersAreFound : Type 0
OrdersAreFound =
    (n : ℕ) (w : ℕ → ℕ → Bool) →
    ((try n w (all_to n) ≡ true) ↔ Runs w (all_to n)) × (Runs w (all_to n) ↔ ((i : ℕ) → i < n → CanGo n w nobody i))

-- an order is still one with fewer blocks
abbrev pub FewerBlocksKeepOrders : Type 0
FewerBlocksKeepOrders = (w w' : ℕ → ℕ → Bool) (is : List ℕ) → ((i j : ℕ) → w i j ≡ false → w' i j ≡ false) → Runs w is → Runs w' is

-- never stuck: where nobody is blocked by one that is done and one can go that is not done, such a one can go and is blocked by nobody
abbrev pub SomeOneIsFree : Type 0
SomeOneIsFree =
    (n : ℕ) (w : ℕ → ℕ → Bool) (k done : ℕ → Bool) → ((i j : ℕ) → i < n → j < n → i ≢ j → done j ≡ true → w i j ≡ false) →
    (i : ℕ) → CanGo n w k i → done i ≡ false → (j : ℕ) × CanGo n w k j × (done j ≡ false) × ((m : ℕ) → m < n → j ≢ m → w j m ≡ false)

-- where everybody can go when nobody is closed, each can go or waits for a closed one, and never both
abbrev pub GoesOrWaits : Type 0
GoesOrWaits =
    (n : ℕ) (w : ℕ → ℕ → Bool) (k : ℕ → Bool) → ((i : ℕ) → i < n → CanGo n w nobody i) →
    (i : ℕ) → i < n → (CanGo n w k i ⊎ Waits n w k i) × (CanGo n w k i → Waits n w k i → ⊥)

-- what the grant rule tries is the rule, for agents of any type
abbrev pub MayIsGranted : Type 0 → Type 0
MayIsGranted S = (K : Kind S) (n : ℕ) (g : ℕ → S) (i : ℕ) (cs : List ℕ) (s : S) → (may K n g i cs s ≡ true) ↔ Granted K n g i cs s

-- a granted change keeps safety: where no two hold a place together and the agent holds after it only what it held or entered, no two do
-- after it, everybody can go, and whoever could go in a closing still can
abbrev pub GrantsKeepSafety : Type 0 → Type 0
GrantsKeepSafety S =
    (K : Kind S) (n : ℕ) (g : ℕ → S) (i : ℕ) (cs : List ℕ) (s : S) → i < n → Apart K n g → Within (K.held s) (cs ++ K.held (g i)) →
    may K n g i cs s ≡ true →
    Apart K n (put g i s) × AllGo K n (put g i s) × ((l : ℕ) → l < K.closings → Kept K n g (put g i s) (K.shut l))

-- somebody is granted what it needs: where each holds only where it settles, everybody can go when nobody is closed, idle ones block
-- nobody, and one that is not idle can go under the largest closing, so can some k that is not idle; and k may make every change that
-- enters part of what it needs, leaves part of it and does not close k
abbrev pub SomeGoes : Type 0 → Type 0
SomeGoes S =
    (K : Kind S) (n : ℕ) (g : ℕ → S) (top : S → Bool) → ((l : ℕ) (s : S) → l < K.closings → K.shut l s ≡ true → top s ≡ true) →
    ((i : ℕ) → i < n → Within (K.held (g i)) (K.settled (g i))) → AllGo K n g →
    ((i j : ℕ) → i < n → j < n → i ≢ j → K.idle (g j) ≡ true → blocks K g i j ≡ false) →
    (i : ℕ) → GoesUnder K n g top i → K.idle (g i) ≡ false →
    (k : ℕ) × GoesUnder K n g top k × (K.idle (g k) ≡ false) ×
    ((cs : List ℕ) (s : S) → Within cs (K.needs (g k)) → Within (K.needs s) (K.needs (g k)) → top s ≡ false →
    may K n g k cs s ≡ true)
