-- Shuttles as agents that block each other: what the hall's definitions are in the general theory.
use Rattle.std.proofs.Common.{◌≡◌, ℕ, zero, suc, ◌+◌, ◌<◌, Bool, true, false, not, ◌||◌, eqb, ◌⊎◌, List, [], ◌∷◌, ◌++◌, Decides, sym, refl, ap, ◌∙◌, subst, inl, inr, ⊎_elim, arith}
use Rattle.std.proofs.lemmas.Bool.{cases_Bool, both_ways, eq-eqb, ne_eqb}
use Rattle.std.proofs.lemmas.Bool.Decides.{nat_tests}
use Rattle.std.specs.Cmp.{both_ways as same_test}
use Rattle.rules.specs.Tests.{among, is_empty, any_to}
use Rattle.rules.specs.Shuttle.{Shuttle, Fleet, holds, held_by_other, put, next_square, stepped}
use Rattle.rules.specs.Safe.{clear_of, Runs, none, first, all_to, Safe, without, first_clear, on_first, try, safe}
use Rattle.rules.specs.Event.{grants}
use Rattle.agents.specs.Numbers.{among as is_in, meets, all_below, all_to as numbers_to, nobody_left}
use Rattle.agents.specs.Going.{nobody, clear, take_out, left_over, OthersGo, NoneFree}
use Rattle.agents.specs.Orders.{Runs as Goes, none as no_one, first as then_first, try as tries}
use Rattle.agents.specs.Kinds.{put as with_agent, sum_to as sum_of, blocks, may, free_for, all_go, keeps, AllGo}
use Rattle.agents.proofs.Taking.{stays}
use Rattle.agents.proofs.Orders.{tries_exactly, tries_all_go, set_tries}
use Rattle.agents.proofs.Grants.{all_go_is}
use Rattle.promise.specs.Promise.{sum_to}
use Rattle.promise.specs.Rule.{shuttles, RuleIsTheSame}

pub among_is : (x : ℕ) (ys : List ℕ) → is_in x ys ≡ among x ys
unfolding among is_in
among_is x [] = refl
among_is x (y ∷ ys) = ap (λ t. eqb x y || t) (among_is x ys)

pub put_is : (g : Fleet) (i : ℕ) (s : Shuttle) → with_agent g i s ≡ put g i s
unfolding put with_agent
put_is g i s = refl

pub sum_is : (m : Shuttle → ℕ) (g : Fleet) (n : ℕ) → sum_of m g n ≡ sum_to m g n
unfolding sum_to sum_of
sum_is m g zero = refl
sum_is m g (suc n) = ap (λ t. t + m (g n)) (sum_is m g n)

numbers_are : (n : ℕ) → numbers_to n ≡ all_to n
unfolding all_to numbers_to
numbers_are zero = refl
numbers_are (suc n) = ap (λ t. n ∷ t) (numbers_are n)

pub one_meets : (c : ℕ) (r : List ℕ) → meets (c ∷ []) r ≡ among c r
unfolding meets
one_meets c r = grind (arith, among_is c r)

-- a shuttle blocks another if its square is one that the other has still to go over
pub blocks_is : (g : Fleet) (i j : ℕ) → blocks shuttles g i j ≡ among (g j).at (g i).route
unfolding blocks
blocks_is g i j = one_meets (g j).at (g i).route

clear_is : (g : Fleet) (i : ℕ) (js : List ℕ) → clear (blocks shuttles g) i js ≡ clear_of g i js
unfolding clear clear_of
clear_is g i [] = refl
clear_is g i (j ∷ js) = let e = blocks_is g i j in let e' = clear_is g i js in cc

runs_from : {g : Fleet} {is : List ℕ} → Goes (blocks shuttles g) is → Runs g is
runs_from no_one = none
runs_from {g} (then_first i before after c r) = first i before after (sym (clear_is g i (before ++ after)) ∙ c) (runs_from r)

runs_to : {g : Fleet} {is : List ℕ} → Runs g is → Goes (blocks shuttles g) is
runs_to none = no_one
runs_to {g} (first i before after c r) = then_first i before after (clear_is g i (before ++ after) ∙ c) (runs_to r)

-- the first that is clear is the one that is taken out
first_clear_is : (g : Fleet) (all some : List ℕ) →
    ((first_clear g all some ≡ []) × (take_out (blocks shuttles g) nobody all some ≡ some))
    ⊎ ((i : ℕ) × (first_clear g all some ≡ i ∷ []) × (take_out (blocks shuttles g) nobody all some ≡ without i some) ×
    (clear_of g i all ≡ true))
unfolding first_clear take_out without
first_clear_is g all [] = inl (refl, refl)
first_clear_is g all (x ∷ xs) =
    let c = clear_is g x all in
    ⊎_elim
    (λ (e : clear_of g x all ≡ true). inr (x, cc, let q = eq-eqb x x refl in cc, e))
    (λ (e : clear_of g x all ≡ false). ⊎_elim
    (λ (t : (first_clear g all xs ≡ []) × (take_out (blocks shuttles g) nobody all xs ≡ xs)). inl (cc t.0, cc t.1))
    (λ (t : (i : ℕ) × (first_clear g all xs ≡ i ∷ []) × (take_out (blocks shuttles g) nobody all xs ≡ without i xs) × (clear_of g i all ≡ true)).
    let (i, p, q, r) = t in
    let other : eqb i x ≡ false = ne_eqb i x (λ z. both_ways (clear_of g x all) e (subst (λ y. clear_of g y all ≡ true) z r)) in
    inr (i, cc, cc, r))
    (first_clear_is g all xs))
    (cases_Bool (clear_of g x all))

try_is : (m : ℕ) (g : Fleet) (is : List ℕ) → tries m (blocks shuttles g) is ≡ try m g is
unfolding tries left_over nobody_left try on_first is_empty
try_is zero g [] = refl
try_is zero g (i ∷ is) = refl
try_is (suc m) g is =
    let next : (js : List ℕ) → tries m (blocks shuttles g) js ≡ try m g js = try_is m g in
    ⊎_elim
    (λ (t : (first_clear g is is ≡ []) × (take_out (blocks shuttles g) nobody is is ≡ is)).
    ap (tries m (blocks shuttles g)) t.1 ∙ ap nobody_left (stays m (blocks shuttles g) nobody is t.1) ∙ empty is ∙ ap
    (λ x. on_first x (λ i. try m g (without i is)) (is_empty is)) (sym t.0))
    (λ (t : (i : ℕ) × (first_clear g is is ≡ i ∷ []) × (take_out (blocks shuttles g) nobody is is ≡ without i is) × (clear_of g i is ≡ true)).
    ap (tries m (blocks shuttles g)) t.2 ∙ next (without t.0 is) ∙ ap (λ x. on_first x (λ i. try m g (without i is)) (is_empty is))
    (sym t.1))
    (first_clear_is g is is)
  where
    empty : (is : List ℕ) → nobody_left is ≡ is_empty is
    empty [] = refl
    empty (i ∷ is) = refl

module _ (n : ℕ) (g : Fleet) where
  tries_is : tries n (blocks shuttles g) (numbers_to n) ≡ safe n g
  unfolding safe
  tries_is = ap (tries n (blocks shuttles g)) (numbers_are n) ∙ try_is n g (all_to n)

  -- trying is right
  pub safe_is : Decides (safe n g) (Safe n g)
  unfolding Safe
  safe_is = (
    λ e. runs_from (subst (Goes (blocks shuttles g)) (numbers_are n) ((tries_exactly n (blocks shuttles g)).0 (tries_is ∙ e))),
    λ r. sym tries_is ∙ (tries_exactly n (blocks shuttles g)).1 (subst (Goes (blocks shuttles g)) (sym (numbers_are n)) (runs_to r)),
  )

  -- all is safe exactly if everybody can go
  pub safe_all_go : Decides (safe n g) (AllGo shuttles n g)
  safe_all_go = (λ e. (tries_all_go n (blocks shuttles g)).0 (tries_is ∙ e), λ f. sym tries_is ∙ (tries_all_go n (blocks shuttles g)).1 f)

  -- a loop that takes out in any order, at its end: all is safe exactly if nobody is left
  pub safe_by_set : (In : ℕ → Bool) → OthersGo n (blocks shuttles g) nobody In → NoneFree n (blocks shuttles g) nobody In →
      Decides (safe n g) ((i : ℕ) → i < n → In i ≡ false)
  safe_by_set In o f = let d = set_tries n (blocks shuttles g) In o f in (λ e. d.0 (tries_is ∙ e), λ h. sym tries_is ∙ d.1 h)

-- a shuttle holds what it holds
pub holds_is : (s : Shuttle) (c : ℕ) → is_in c (shuttles.held s) ≡ holds s c
unfolding is_in holds
holds_is s c = ⊎_elim (λ (e : s.moving ≡ true). grind (arith, nat_tests)) (λ (e : s.moving ≡ false). grind (arith, nat_tests))
    (cases_Bool s.moving)

pub meets_one : (xs : List ℕ) (c : ℕ) → meets xs (c ∷ []) ≡ is_in c xs
unfolding meets is_in
meets_one [] c = refl
meets_one (x ∷ xs) c = grind (arith, nat_tests, meets_one xs c)

-- nobody else holds the square
pub free_is : (n : ℕ) (g : Fleet) (i c : ℕ) → free_for shuttles n g i (c ∷ []) ≡ not (held_by_other g i c n)
unfolding free_for held_by_other all_below any_to
free_is zero g i c = refl
free_is (suc n) g i c = let e = meets_one (shuttles.held (g n)) c ∙ holds_is (g n) c in let e' = free_is n g i c in grind (arith, nat_tests)

-- the hall's rule is the grant rule
pub rule_is_the_same : RuleIsTheSame
unfolding grants may keeps all_below put with_agent
rule_is_the_same f g i =
    let s = stepped (g i) in
    let n = f.shuttles in
    let e = free_is n g i (next_square (g i).route) in
    let e' : all_go shuttles n (with_agent g i s) ≡ safe n (put g i s) = same_test _ _
    (λ h. (safe_all_go n (put g i s)).1 ((all_go_is shuttles n (put g i s)).0 h))
    (λ h. (all_go_is shuttles n (put g i s)).1 ((safe_all_go n (put g i s)).0 h)) in
    grind (arith, e, e')
