-- Who can go: the one lemma by which going is kept when blocks and closings change, who waits, and that somebody can go at once.
use Rattle.std.proofs.Common.{◌≡◌, ℕ, zero, suc, ◌<◌, Bool, true, false, not, ◌&&◌, eqb, ◌⊎◌, refl, inl, inr, ⊎_elim, arith}
use Rattle.std.proofs.lemmas.Bool.{both_ways, false_from_ne_true}
use Rattle.std.proofs.lemmas.Bool.Decides.{nat_tests}
use Rattle.agents.specs.Going.{CanGo, goes, Waits, closed, behind}
use Rattle.agents.proofs.Tests.{some_below}

-- another that blocks i and that a test finds, or none
pub some_blocker : (n : ℕ) (w : ℕ → ℕ → Bool) (p : ℕ → Bool) (i : ℕ) →
    ((j : ℕ) × (j < n) × (i ≡ j → ⊥) × (w i j ≡ true) × (p j ≡ true)) ⊎ ((j : ℕ) → j < n → (i ≡ j → ⊥) → w i j ≡ true → p j ≡ false)
some_blocker n w p i = ⊎_elim
    (λ (t : (j : ℕ) × (j < n) × ((not (eqb i j) && (w i j && p j)) ≡ true)). let e = t.2 in
    inl (t.0, t.1, grind (arith, nat_tests), grind (arith, nat_tests), grind (arith, nat_tests)))
    (λ (f : (j : ℕ) → j < n → (not (eqb i j) && (w i j && p j)) ≡ false). inr (λ j l ne e. let h = f j l in grind (arith, nat_tests)))
    (some_below n (λ j. not (eqb i j) && (w i j && p j)))

module _ {n : ℕ} {w : ℕ → ℕ → Bool} {k : ℕ → Bool} where
  pub below : {i : ℕ} → CanGo n w k i → i < n
  below (goes i l c b) = l

  pub not_closed : {i : ℕ} → CanGo n w k i → k i ≡ false
  not_closed (goes i l c b) = c

  pub blocker_goes : {i : ℕ} → CanGo n w k i → (j : ℕ) → j < n → (i ≡ j → ⊥) → w i j ≡ true → CanGo n w k j
  blocker_goes (goes i l c b) = b

  -- whoever is in In and could go can go, if each of In can go anyway, or is closed only if it was and blocked only by those of In that
  -- blocked it or by ones that can go
  pub kept : {w' : ℕ → ℕ → Bool} {k' : ℕ → Bool} (In : ℕ → Type 0) →
      ((i : ℕ) → i < n → In i → CanGo n w' k' i ⊎
      ((k' i ≡ true → k i ≡ true) × ((j : ℕ) → j < n → (i ≡ j → ⊥) → w' i j ≡ true → ((w i j ≡ true) × In j) ⊎ CanGo n w' k' j))) →
      {i : ℕ} → CanGo n w k i → In i → CanGo n w' k' i
  kept {w'} {k'} In f (goes i l c b) h =
      let rest : (j : ℕ) → j < n → (i ≡ j → ⊥) → w i j ≡ true → In j → CanGo n w' k' j = λ j m ne e. kept In f (b j m ne e) in
      ⊎_elim
      (λ o. o)
      (λ (p : (k' i ≡ true → k i ≡ true) × ((j : ℕ) → j < n → (i ≡ j → ⊥) → w' i j ≡ true → ((w i j ≡ true) × In j) ⊎ CanGo n w' k' j)).
      goes i l (false_from_ne_true (k' i) (λ e. both_ways (k i) c (p.0 e)))
      (λ j m ne e. ⊎_elim (λ (q : (w i j ≡ true) × In j). rest j m ne q.0 q.1) (λ o. o) (p.1 j m ne e)))
      (f i l h)

  -- with fewer blocks and fewer closed ones, whoever could go can go
  pub kept_fewer : {w' : ℕ → ℕ → Bool} {k' : ℕ → Bool} →
      ((i j : ℕ) → i < n → j < n → (i ≡ j → ⊥) → w' i j ≡ true → w i j ≡ true) → ((i : ℕ) → i < n → k' i ≡ true → k i ≡ true) →
      {i : ℕ} → CanGo n w k i → CanGo n w' k' i
  kept_fewer f h o = kept (λ _. Unit {0}) (λ i l _. inr (h i l, λ j m ne e. inl (f i j l m ne e, tt))) o tt

  -- who waits cannot go
  pub waits_not : {i : ℕ} → Waits n w k i → CanGo n w k i → ⊥
  waits_not (closed i l c) o = both_ways (k i) (not_closed o) c
  waits_not (behind i j l m ne e r) o = waits_not r (blocker_goes o j m ne e)

  -- where somebody can go that is not done, and nobody is blocked by one that is done, somebody that is not done can go and is blocked by
  -- nobody
  pub free_one : (done : ℕ → Bool) → ((i j : ℕ) → i < n → j < n → (i ≡ j → ⊥) → done j ≡ true → w i j ≡ false) →
      {i : ℕ} → CanGo n w k i → done i ≡ false →
      (j : ℕ) × CanGo n w k j × (done j ≡ false) × ((m : ℕ) → m < n → (j ≡ m → ⊥) → w j m ≡ false)
  free_one done f (goes i l c b) h =
      let rest : (j : ℕ) → j < n → (i ≡ j → ⊥) → w i j ≡ true → done j ≡ false →
      (j : ℕ) × CanGo n w k j × (done j ≡ false) × ((m : ℕ) → m < n → (j ≡ m → ⊥) → w j m ≡ false) = λ j m ne e. free_one done f
      (b j m ne e) in
      ⊎_elim
      (λ (t : (j : ℕ) × (j < n) × (i ≡ j → ⊥) × (w i j ≡ true) × (true ≡ true)). rest t.0 t.1 t.2 t.3
      (false_from_ne_true (done t.0) (λ d. both_ways (w i t.0) (f i t.0 l t.1 t.2 d) t.3)))
      (λ (none : (j : ℕ) → j < n → (i ≡ j → ⊥) → w i j ≡ true → true ≡ false).
      (i, goes i l c b, h, λ m lm ne. false_from_ne_true (w i m) (λ e. both_ways true (none m lm ne e) refl)))
      (some_blocker n w (λ _. true) i)

-- what can be tried again and again, with a measure that falls, comes to where Q holds
pub descend : {A : Type 0} (m : A → ℕ) (P Q : A → Type 0) → ((a : A) → P a → Q a ⊎ ((b : A) × P b × (m b < m a))) → (a : A) → P a →
    (b : A) × P b × Q b
descend {A} m P Q step a p = within (suc (m a)) a (omega arith) p
  where
    within : (fuel : ℕ) (a : A) → m a < fuel → P a → (b : A) × P b × Q b
    within zero a l p = absurd (omega arith)
    within (suc fuel) a l p =
        let on : (b : A) → m b < fuel → P b → (b : A) × P b × Q b = within fuel in
        ⊎_elim (λ q. (a, p, q)) (λ (t : (b : A) × P b × (m b < m a)). on t.0 (omega arith) t.1) (step a p)
