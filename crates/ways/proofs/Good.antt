-- Routes that meet what is left of a row, step by step: which squares may be entered on the way to the next square of the row.
use Rattle.std.proofs.Common.{◌≡◌, ℕ, Bool, true, false, not, ◌&&◌, ◌||◌, eqb, List, [], ◌∷◌, sym, refl, ap, ◌∙◌, subst, ⊎_elim}
use Rattle.std.specs.List.{list_all}
use Rattle.std.proofs.lemmas.Bool.{cases_eq, cases_Bool, cond-true, ne_eqb, eq-eqb, eqb-true, and_parts, and_from, or_cases, or_left, or_right, not-true, not_from_false, both_ways}
use Rattle.rules.specs.Tests.{is_empty}
use Rattle.rules.specs.Field.{Field, is_bay, free_square, beside}
use Rattle.rules.specs.Route.{step_ok, route_ok}
use Rattle.rules.proofs.Tests.{empty_tells}
use Rattle.ways.specs.Good.{past, unmet, enter, final, Good}
use Rattle.ways.proofs.Greedy.{past_here, past_other, last}

-- a list with an element is not the empty one
pub cons_nil : (g : ℕ) (gs : List ℕ) → g ∷ gs ≡ [] → ⊥
cons_nil g gs e = cc

unmet_here : (c : ℕ) (r gs : List ℕ) → unmet c r (c ∷ gs) ≡ unmet c r gs
unfolding unmet
unmet_here c [] gs = past_here c gs
unmet_here c (d ∷ ds) gs = ap (λ (x : List ℕ). unmet d ds x) (past_here c gs)

unmet_other : (c g d : ℕ) (ds gs : List ℕ) → (c ≡ g → ⊥) → unmet c (d ∷ ds) (g ∷ gs) ≡ unmet d ds (g ∷ gs)
unfolding unmet
unmet_other c g d ds gs ne = ap (λ (x : List ℕ). unmet d ds x) (past_other c g gs ne)

unmet_stay : (c : ℕ) (gs : List ℕ) → unmet c [] gs ≡ past c gs
unfolding unmet
unmet_stay c gs = refl

pub route_ends : (f : Field) (i c : ℕ) (r : List ℕ) → route_ok f i c r ≡ true → last c r ≡ f.bay i
unfolding route_ok last
route_ends f i c [] h = eqb-true c (f.bay i) h
route_ends f i c (d ∷ ds) h = route_ends f i d ds (and_parts (step_ok f i c d ds) (route_ok f i d ds) h).1

-- a bay is entered only as the last square
pub enter_bay : (f : Field) (g : ℕ) (end : Bool) (d : ℕ) → enter f g end d ≡ true → is_bay f d ≡ true → (d ≡ g) × (end ≡ true)
unfolding enter
enter_bay f g end d e b =
    let q = (and_parts (free_square f d) (not (is_bay f d) || (eqb d g && end)) e).1 in
    ⊎_elim
    (λ n. absurd (both_ways (is_bay f d) (not-true (is_bay f d) n) b))
    (λ p. let ps = and_parts (eqb d g) end p in (eqb-true d g ps.0, ps.1))
    (or_cases (not (is_bay f d)) (eqb d g && end) q)

module _ (f : Field) (i : ℕ) where
  -- in the bay with nothing else left, the route of no squares is good
  pub good_end : (g : ℕ) (gs : List ℕ) → g ≡ f.bay i → final g gs ≡ true → Good f i g (g ∷ gs) []
  unfolding route_ok final
  good_end g gs e t =
      record { route = eq-eqb g (f.bay i) e; met = unmet_stay g (g ∷ gs) ∙ (past_here g gs ∙ empty_tells (past g gs) t) }

  pub good_none : (c : ℕ) → c ≡ f.bay i → Good f i c [] []
  unfolding route_ok unmet past
  good_none c e = record { route = eq-eqb c (f.bay i) e; met = refl }

  -- where c stands is met at once
  pub good_drop : (c : ℕ) (gs r : List ℕ) → Good f i c (c ∷ gs) r → Good f i c gs r
  good_drop c gs r h = record { route = h.route; met = sym (unmet_here c r gs) ∙ h.met }

  pub good_put : (c : ℕ) (gs r : List ℕ) → Good f i c gs r → Good f i c (c ∷ gs) r
  good_put c gs r h = record { route = h.route; met = unmet_here c r gs ∙ h.met }

  -- whoever is elsewhere has to go
  pub good_stay : (c g : ℕ) (gs : List ℕ) → (c ≡ g → ⊥) → Good f i c (g ∷ gs) [] → ⊥
  good_stay c g gs ne h = cc (past_other c g gs ne, unmet_stay c (g ∷ gs))

  bay_last : (g d : ℕ) (gs ds : List ℕ) → is_empty ds ≡ true → unmet d ds (g ∷ gs) ≡ [] → (eqb d g && final g gs) ≡ true
  unfolding final is_empty
  bay_last g d gs [] e m =
      ⊎_elim
      (λ (q : d ≡ g). and_from (eqb d g) (is_empty (past g gs)) (eq-eqb d g q)
      (let n : past g gs ≡ [] = sym (past_here g gs) ∙ subst (λ (x : ℕ). past x (g ∷ gs) ≡ []) q (sym (unmet_stay d (g ∷ gs)) ∙ m) in ap is_empty n))
      (λ ne. cc (past_other d g gs ne, unmet_stay d (g ∷ gs)))
      (cases_eq d g)
  bay_last g d gs (x ∷ xs) e m = absurd (both_ways false refl e)

  -- its next square is beside it and may be entered, and from there the rest is good
  pub good_next :
      (c g d : ℕ) (gs ds : List ℕ) → (c ≡ g → ⊥) → Good f i c (g ∷ gs) (d ∷ ds)
      → (beside f c d ≡ true) × (enter f g (final g gs) d ≡ true) × Good f i d (g ∷ gs) ds
  unfolding route_ok step_ok enter
  good_next c g d gs ds ne h =
      let hs = and_parts (step_ok f i c d ds) (route_ok f i d ds) h.route in
      let ps = and_parts (beside f c d) (free_square f d && (not (is_bay f d) || (eqb d (f.bay i) && is_empty ds))) hs.0 in
      let qs = and_parts (free_square f d) (not (is_bay f d) || (eqb d (f.bay i) && is_empty ds)) ps.1 in
      let m : unmet d ds (g ∷ gs) ≡ [] = sym (unmet_other c g d ds gs ne) ∙ h.met in (
        ps.0,
        and_from (free_square f d) (not (is_bay f d) || (eqb d g && final g gs)) qs.0
            (⊎_elim
            (λ o. or_left (not (is_bay f d)) (eqb d g && final g gs) o)
            (λ b. or_right (not (is_bay f d)) (eqb d g && final g gs) (bay_last g d gs ds (and_parts (eqb d (f.bay i)) (is_empty ds) b).1 m))
            (or_cases (not (is_bay f d)) (eqb d (f.bay i) && is_empty ds) qs.1)),
        record { route = hs.1; met = m },
      )

  -- a step before what is good; into a bay only if that is the end
  pub good_step :
      (c g d : ℕ) (gs ds : List ℕ) → (c ≡ g → ⊥) → beside f c d ≡ true → enter f g (final g gs) d ≡ true
      → (is_bay f d ≡ true → (d ≡ f.bay i) × (ds ≡ [])) → Good f i d (g ∷ gs) ds → Good f i c (g ∷ gs) (d ∷ ds)
  unfolding route_ok step_ok enter is_empty
  good_step c g d gs ds ne b e last h =
      let qs = and_parts (free_square f d) (not (is_bay f d) || (eqb d g && final g gs)) e in
      let o : (not (is_bay f d) || (eqb d (f.bay i) && is_empty ds)) ≡ true =
      ⊎_elim
      (λ y. let l = last y in or_right (not (is_bay f d)) (eqb d (f.bay i) && is_empty ds)
      (and_from (eqb d (f.bay i)) (is_empty ds) (eq-eqb d (f.bay i) l.0) (ap is_empty l.1)))
      (λ n. or_left (not (is_bay f d)) (eqb d (f.bay i) && is_empty ds) (not_from_false (is_bay f d) n))
      (cases_Bool (is_bay f d)) in
      record {
        route =
            and_from (step_ok f i c d ds) (route_ok f i d ds)
            (and_from (beside f c d) (free_square f d && (not (is_bay f d) || (eqb d (f.bay i) && is_empty ds))) b
            (and_from (free_square f d) (not (is_bay f d) || (eqb d (f.bay i) && is_empty ds)) qs.0 o))
            h.route;
        met = unmet_other c g d ds gs ne ∙ h.met;
      }

-- a square is met last exactly if each that follows is that square
pub final_is : (g : ℕ) (gs : List ℕ) → final g gs ≡ list_all (λ x. eqb x g) gs
unfolding final past is_empty
final_is g [] = refl
final_is g (h ∷ hs) =
    ⊎_elim
    (λ (e : g ≡ h). let same = final_is g hs in
    let here : past g (h ∷ hs) ≡ past g hs = cond-true (eqb g h) (past g hs) (h ∷ hs) (eq-eqb g h e) in
    let test : eqb h g ≡ true = eq-eqb h g (sym e) in
    ap is_empty here ∙ (same ∙ ap (λ (b : Bool). b && list_all (λ x. eqb x g) hs) (sym test)))
    (λ ne. let test : eqb h g ≡ false = ne_eqb h g (λ q. ne (sym q)) in
    ap is_empty (past_other g h hs ne) ∙ ap (λ (b : Bool). b && list_all (λ x. eqb x g) hs) (sym test))
    (cases_eq g h)
