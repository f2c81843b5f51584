-- Sets of blockers say who can go as the fleet does.
use Rattle.std.proofs.Common.{◌≡◌, ℕ, ◌<◌, Bool, ◌&&◌, ltb, List, get_or, replicate, Decides, sym, ◌∙◌, ⊎_elim, arith}
use Rattle.std.proofs.lemmas.List.{get_or-replicate, get_or_past, length-replicate}
use Rattle.std.proofs.lemmas.Bool.{and_parts, and_from, lt-ltb, cases_lt}
use Rattle.std.proofs.lemmas.Bool.Decides.{Decides-like, same_from_decides}
use Rattle.rules.specs.Tests.{among}
use Rattle.rules.specs.Shuttle.{Fleet}
use Rattle.rules.specs.Safe.{safe}
use Rattle.agents.specs.Going.{CanGo, nobody as no_one}
use Rattle.agents.proofs.Going.{kept_fewer}
use Rattle.promise.proofs.Shuttles.{blocks_is, safe_all_go}
use Rattle.memory.specs.declared.shuttle.Shuttle.{Shuttle as Kept}
use Rattle.safety.specs.Masks.{has, met}
use Rattle.safety.specs.Fleets.{fleet_of}
use Rattle.memory.specs.Shuttles.{nobody}
use Rattle.safety.proofs.Standing.{Stands, met_is}

-- a table that is made of nothing but 0
pub all_clear : (n c : ℕ) → ◌≡◌ {A = ℕ} (get_or (replicate n 0) c 0) 0
all_clear n c =
    ⊎_elim (λ l. get_or-replicate n c 0 0 l) (λ l. get_or_past (replicate n 0) c 0 (omega (arith, length-replicate {A = ℕ} n 0))) (cases_lt c n)

-- a set of blockers for each shuttle: those of the first n that are on a square that it has still to go over
abbrev pub BlockedBy : ℕ → Fleet → List ℕ → Type 0
BlockedBy n g bs = (i j : ℕ) → i < n → has (get_or bs i 0) j ≡ (ltb j n && among (g j).at (g i).route)

pub blocked_by : (ss : List Kept) (m : List ℕ) (n : ℕ) (table bs : List ℕ) → Stands (λ k. (get_or ss k nobody).at) n table
    → ((i j : ℕ) → i < n → has (get_or bs i 0) j ≡ met table j (fleet_of ss m i).route) → BlockedBy n (fleet_of ss m) bs
blocked_by ss m n table bs stands met_by i j l = met_by i j l ∙ met_is (λ k. (get_or ss k nobody).at) n table stands j (fleet_of ss m i).route

pub safe_by_sets : (n : ℕ) (g : Fleet) (bs : List ℕ) (r : Bool) → BlockedBy n g bs
    → Decides r ((i : ℕ) → i < n → CanGo n (λ i j. has (get_or bs i 0) j) no_one i) → r ≡ safe n g
safe_by_sets n g bs r is d =
    same_from_decides r (safe n g) (Decides-like r
    (λ f i l. kept_fewer (λ i j l m _ e. is i j l ∙ and_from _ _ (lt-ltb j n m) (sym (blocks_is g i j) ∙ e)) (λ _ _ e. e) (f i l))
    (λ f i l. kept_fewer (λ i j l m _ e. blocks_is g i j ∙ (and_parts _ _ (sym (is i j l) ∙ e)).1) (λ _ _ e. e) (f i l)) d)
    (safe_all_go n g)
