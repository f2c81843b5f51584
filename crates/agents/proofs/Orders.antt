-- An order in which all go exists exactly if everybody can go, and exactly if trying leaves nobody.
use Rattle.std.proofs.Common.{◌≡◌, ℕ, zero, suc, ◌<◌, ◌≤◌, Bool, true, false, ◌||◌, eqb, List, [], ◌∷◌, ◌++◌, Decides, sym, refl, ◌∙◌, subst, ⊎_elim, arith}
use Rattle.std.proofs.lemmas.Bool.{cases_lt, both_ways, lt-ltb, or_right}
use Rattle.std.proofs.lemmas.Bool.Decides.{nat_tests}
use Rattle.agents.specs.Numbers.{among, all_to, nobody_left}
use Rattle.agents.specs.Going.{CanGo, nobody, clear, left_over, OthersGo, NoneFree}
use Rattle.agents.specs.Orders.{Runs, none, first, try}
use Rattle.agents.proofs.Tests.{among_here, among_middle, among_all_to, clear_tells, clear_from}
use Rattle.agents.proofs.Taking.{set_next, set_without, set_stuck, Stays, Loses, take_out_is, left_over_all}

-- who is clear of a list is clear of a part of it
clear_less : (w : ℕ → ℕ → Bool) (i : ℕ) (before after : List ℕ) → clear w i (before ++ (i ∷ after)) ≡ true →
    clear w i (before ++ after) ≡ true
clear_less w i before after c =
    clear_from w i (before ++ after)
    (λ j ne m. clear_tells w i (before ++ (i ∷ after)) c j ne (among_middle j i before after ∙ or_right _ _ m))

-- an order keeps with fewer blocks
pub runs_fewer : {w : ℕ → ℕ → Bool} (w' : ℕ → ℕ → Bool) → ((i j : ℕ) → w i j ≡ false → w' i j ≡ false) → {is : List ℕ} → Runs w is →
    Runs w' is
runs_fewer w' f none = none
runs_fewer {w} w' f (first i before after c r) = first i before after
    (clear_from w' i (before ++ after) (λ j ne m. f i j (clear_tells w i (before ++ after) c j ne m))) (runs_fewer w' f r)

-- if the list can go in some order and all others can go, everybody can
pub runs_go : (n : ℕ) {w : ℕ → ℕ → Bool} {is : List ℕ} → Runs w is → OthersGo n w nobody (λ i. among i is) → (i : ℕ) → i < n →
    CanGo n w nobody i
unfolding among
runs_go n none o = λ i l. o i l refl
runs_go n {w} (first i before after c r) o =
    let is = before ++ (i ∷ after) in
    let js = before ++ after in
    let mid : (j : ℕ) → among j is ≡ (eqb j i || among j js) = λ j. among_middle j i before after in
    let clear' : (j : ℕ) → (i ≡ j → ⊥) → among j is ≡ true →
    w i j ≡ false = λ j ne m. clear_tells w i js c j ne (let h = mid j in grind (arith, nat_tests)) in
    runs_go n r (⊎_elim
    (λ (l : i < n). set_without n w nobody (λ j. among j is) (λ j. among j js) o i
    (set_next n w nobody (λ j. among j is) o i l refl (λ j m ne a. clear' j ne a)) (λ j m ne a. let h = mid j in grind (arith, nat_tests)))
    (λ (l : n ≤ i). λ j m e. o j m (mid j ∙ grind (arith, nat_tests)))
    (cases_lt i n))

-- if trying leaves nobody, the list can go in some order
pub tries_run : (m : ℕ) (w : ℕ → ℕ → Bool) (is : List ℕ) → try m w is ≡ true → Runs w is
unfolding try left_over nobody_left
tries_run zero w [] e = none
tries_run zero w (i ∷ is) e = absurd (both_ways false refl e)
tries_run (suc m) w is e =
    let next : (js : List ℕ) → try m w js ≡ true → Runs w js = tries_run m w in
    ⊎_elim
    (λ (t : Stays w nobody is is). next is (subst (λ js. try m w js ≡ true) t.0 e))
    (λ (t : Loses w nobody is is).
    let (i, before, after, e₁, e₂, a) = t in
    subst (Runs w) (sym e₁) (first i before after (clear_less w i before after (subst (λ js. clear w i js ≡ true) e₁ a))
    (next (before ++ after) (subst (λ js. try m w js ≡ true) e₂ e))))
    (take_out_is w nobody is is)

module _ (n : ℕ) (w : ℕ → ℕ → Bool) where
  -- if everybody can go, trying leaves nobody
  pub go_tries : ((i : ℕ) → i < n → CanGo n w nobody i) → try n w (all_to n) ≡ true
  unfolding try nobody_left
  go_tries f = empty (left_over n w nobody (all_to n))
      (λ i m. both_ways _ (set_stuck n w nobody _ (left_over_all n w nobody).2 (f i ((left_over_all n w nobody).0 i m))) m)
    where
      empty : (is : List ℕ) → ((i : ℕ) → among i is ≡ true → ⊥) → nobody_left is ≡ true
      empty [] no' = refl
      empty (i ∷ is) no' = absurd (no' i (among_here i is))

  pub runs_all_go : Runs w (all_to n) → (i : ℕ) → i < n → CanGo n w nobody i
  runs_all_go r = runs_go n r (λ i l e. absurd (both_ways _ (sym (among_all_to n i) ∙ e) (lt-ltb i n l)))

  -- an order exists exactly if trying leaves nobody
  pub tries_exactly : Decides (try n w (all_to n)) (Runs w (all_to n))
  tries_exactly = (tries_run n w (all_to n), λ r. go_tries (runs_all_go r))

  -- and exactly if everybody can go
  pub tries_all_go : Decides (try n w (all_to n)) ((i : ℕ) → i < n → CanGo n w nobody i)
  tries_all_go = (λ e. runs_all_go (tries_run n w (all_to n) e), go_tries)

  -- at the end of a loop that takes out in any order: trying leaves nobody exactly if the set is empty
  pub set_tries : (In : ℕ → Bool) → OthersGo n w nobody In → NoneFree n w nobody In →
      Decides (try n w (all_to n)) ((i : ℕ) → i < n → In i ≡ false)
  set_tries In o s = (λ e i l. set_stuck n w nobody In s (tries_all_go.0 e i l), λ f. go_tries (λ i l. o i l (f i l)))
