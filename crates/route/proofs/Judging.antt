-- How the judgement of what is left of a row goes on, step by step, and what it says at the end.
use Rattle.std.proofs.Common.{◌≡◌, ℕ, ◌+◌, ◌<◌, true, false, eqb, List, [], ◌∷◌, length, get_or, drop, Ok, Err, refl, ◌∙◌, arith}
use Rattle.std.proofs.lemmas.List.{at_drop_more, at_drop_all, length-drop}
use Rattle.std.proofs.lemmas.Bool.{eq-eqb, ne_eqb}
use Rattle.std.proofs.lemmas.Bool.Decides.{nat_tests}
use Rattle.rules.specs.Tests.{is_empty}
use Rattle.rules.specs.Field.{Field}
use Rattle.rules.specs.Route.{step_ok, route_ok, first_wrong}
use Rattle.rules.proofs.Tests.{empty_is}
use Rattle.route.specs.Judged.{verdict}
use Rattle.route.specs.declared.fault.Fault.TheVariants.{WrongAt, OutsideAfter}

module _ (f : Field) (i : ℕ) where
  -- the row from `from` is judged as what is left of it after k right steps to `at`
  pub record Judging (from at k : ℕ) (r : List ℕ) : Type 0 where
    pub same_route : route_ok f i from r ≡ route_ok f i at (drop k r)
    pub same_wrong : first_wrong f i from r ≡ k + first_wrong f i at (drop k r)

  pub judging_none : (from : ℕ) (r : List ℕ) → Judging from from 0 r
  judging_none from r = record { same_route = refl; same_wrong = omega arith }

  -- one right step more
  pub judging_more : (from at k : ℕ) (r : List ℕ) → k < length r → step_ok f i at (get_or r k 0) (drop (k + 1) r) ≡ true
      → Judging from at k r → Judging from (get_or r k 0) (k + 1) r
  unfolding route_ok first_wrong
  judging_more from at k r l ok j =
      let e : route_ok f i at (drop k r) ≡ route_ok f i at (get_or r k 0 ∷ drop (k + 1) r) = at_drop_more (route_ok f i at) r k 0 l in
      let w : first_wrong f i at (drop k r) ≡ first_wrong f i at (get_or r k 0 ∷ drop (k + 1) r) = at_drop_more (first_wrong f i at) r k 0 l in
      record { same_route = j.same_route ∙ e ∙ grind (arith, nat_tests); same_wrong = j.same_wrong ∙ grind (arith, nat_tests) }

  -- a wrong step
  pub judged_wrong : (from at k : ℕ) (r : List ℕ) → k < length r → step_ok f i at (get_or r k 0) (drop (k + 1) r) ≡ false
      → Judging from at k r → (verdict f i from r ≡ Err (WrongAt k)) × (route_ok f i from r ≡ false)
  unfolding route_ok first_wrong verdict
  judged_wrong from at k r l bad j =
      let e : route_ok f i at (drop k r) ≡ route_ok f i at (get_or r k 0 ∷ drop (k + 1) r) = at_drop_more (route_ok f i at) r k 0 l in
      let w : first_wrong f i at (drop k r) ≡ first_wrong f i at (get_or r k 0 ∷ drop (k + 1) r) = at_drop_more (first_wrong f i at) r k 0 l in
      let wrong : route_ok f i from r ≡ false = j.same_route ∙ e ∙ grind (arith, nat_tests) in
      let here : first_wrong f i from r ≡ k = j.same_wrong ∙ grind (arith, nat_tests) in
      (rw (wrong, here) (grind (arith, nat_tests)), wrong)

  -- the end of the row, in the bay or outside
  pub judged_end : (from at k : ℕ) (r : List ℕ) → k ≡ length r → Judging from at k r
      → (route_ok f i from r ≡ eqb at (f.bay i)) × (first_wrong f i from r ≡ length r)
  unfolding route_ok first_wrong
  judged_end from at k r all j =
      let e : route_ok f i at (drop k r) ≡ route_ok f i at [] = at_drop_all (route_ok f i at) r k (omega arith) in
      let w : first_wrong f i at (drop k r) ≡ first_wrong f i at [] = at_drop_all (first_wrong f i at) r k (omega arith) in
      (j.same_route ∙ e, j.same_wrong ∙ grind (arith, nat_tests))

  pub judged_right : (from at k : ℕ) (r : List ℕ) → k ≡ length r → at ≡ f.bay i → Judging from at k r
      → (verdict f i from r ≡ Ok tt) × (route_ok f i from r ≡ true)
  unfolding verdict
  judged_right from at k r all home j =
      let right : route_ok f i from r ≡ true = (judged_end from at k r all j).0 ∙ eq-eqb at (f.bay i) home in
      (rw right, right)

  pub judged_outside : (from at k : ℕ) (r : List ℕ) → k ≡ length r → (at ≡ f.bay i → ⊥) → Judging from at k r
      → (verdict f i from r ≡ Err (OutsideAfter (length r))) × (route_ok f i from r ≡ false)
  unfolding verdict
  judged_outside from at k r all ne j =
      let e = judged_end from at k r all j in
      let outside : route_ok f i from r ≡ false = e.0 ∙ ne_eqb at (f.bay i) ne in
      (rw (outside, e.1) (grind (arith, nat_tests)), outside)

-- a step is the last exactly if nothing is left after it
pub last_step : (r : List ℕ) (k : ℕ) → k < length r → eqb (k + 1) (length r) ≡ is_empty (drop (k + 1) r)
last_step r k l = rw (empty_is (drop (k + 1) r), length-drop (k + 1) r) (grind (arith, nat_tests))
