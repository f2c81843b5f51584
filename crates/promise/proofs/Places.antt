-- Where a shuttle may be: bays and routes, and each change of one shuttle.
use Rattle.std.proofs.Common.{◌≡◌, ℕ, ◌<◌, true, false, not, ◌&&◌, ◌||◌, eqb, leb, List, [], ◌∷◌, sym, refl, ap, ◌∙◌, subst, ⊎_elim}
use Rattle.std.proofs.lemmas.Bool.{cases_order, both_ways, and_parts, or_cases, not-true, eqb-true, eq-eqb}
use Rattle.rules.specs.Tests.{among, is_empty}
use Rattle.rules.specs.Field.{Field, is_bay_to, is_bay, free_square, bay_ok, sound, beside}
use Rattle.rules.specs.Route.{step_ok, route_ok}
use Rattle.rules.specs.Shuttle.{Shuttle, at_home, ordered, next_square, stepped_to, stepped, arrived}
use Rattle.rules.proofs.Tests.{every_to_tells, any_to_from}
use Rattle.promise.specs.Promise.{Placed}

pub bay_is : (f : Field) (j d : ℕ) → j < f.shuttles → f.bay j ≡ d → is_bay f d ≡ true
unfolding is_bay is_bay_to
bay_is f j d l e = any_to_from (λ i. eqb (f.bay i) d) f.shuttles j l (eq-eqb _ _ e)

-- a step may be made, part by part
pub record MayStep (f : Field) (i c d : ℕ) (rest : List ℕ) : Type 0 where
  pub next_to : beside f c d ≡ true
  pub free : free_square f d ≡ true
  pub bays : (not (is_bay f d) || (eqb d (f.bay i) && is_empty rest)) ≡ true
  pub after : route_ok f i d rest ≡ true

pub route_tells : (f : Field) (i c d : ℕ) (rest : List ℕ) → route_ok f i c (d ∷ rest) ≡ true → MayStep f i c d rest
unfolding route_ok step_ok
route_tells f i c d rest e =
    let (s, r) = and_parts _ _ e in
    let (p, q) = and_parts _ _ s in
    let (a, b) = and_parts _ _ q in
    record { next_to = p; free = a; bays = b; after = r }

module _ (f : Field) (ok : sound f ≡ true) where
  bay_fine : (i : ℕ) → i < f.shuttles → (free_square f (f.bay i) ≡ true) × (is_bay_to f i (f.bay i) ≡ false)
  unfolding sound bay_ok
  bay_fine i l =
      let all = (and_parts (leb 1 f.down) _ (and_parts (leb 1 f.across) _ ok).1).1 in
      let (p, q) = and_parts (free_square f (f.bay i)) _ (every_to_tells (bay_ok f) f.shuttles all i l) in
      (p, not-true _ q)

  -- no shuttle's bay is that of one before it
  bay_new : (i j : ℕ) → i < j → j < f.shuttles → f.bay i ≡ f.bay j → ⊥
  unfolding is_bay_to
  bay_new i j l m e = both_ways _ (bay_fine j m).1 (any_to_from (λ k. eqb (f.bay k) (f.bay j)) j i l (eq-eqb _ _ e))

  pub bays_differ : (i j : ℕ) → i < f.shuttles → j < f.shuttles → f.bay i ≡ f.bay j → i ≡ j
  bays_differ i j l m e =
      ⊎_elim (λ q. q) (λ o. ⊎_elim (λ b. absurd (bay_new i j b m e)) (λ b. absurd (bay_new j i b l (sym e))) o) (cases_order i j)

  -- a route goes over nobody else's bay
  pub route_avoids : (i j : ℕ) → i < f.shuttles → j < f.shuttles → (c : ℕ) (r : List ℕ) → route_ok f i c r ≡ true →
      among (f.bay j) r ≡ true → i ≡ j
  unfolding among
  route_avoids i j l m c [] e a = absurd (both_ways false refl a)
  route_avoids i j l m c (d ∷ ds) e a =
      let s = route_tells f i c d ds e in
      ⊎_elim
      (λ b. let q : f.bay j ≡ d = eqb-true _ _ b in
      ⊎_elim
      (λ n. absurd (both_ways (is_bay f d) (not-true _ n) (bay_is f j d m q)))
      (λ p. bays_differ i j l m (sym (q ∙ eqb-true _ _ (and_parts _ _ p).0)))
      (or_cases _ _ s.bays))
      (λ b. route_avoids i j l m d ds s.after b)
      (or_cases _ _ a)

  pub placed_home : (i : ℕ) → i < f.shuttles → Placed f i (at_home f i)
  unfolding at_home route_ok
  placed_home i l =
      record {
        on_field = (bay_fine i l).0;
        on_route = eq-eqb _ _ refl;
        comes_from = λ e. absurd
            (both_ways false refl e);
        stands_on = λ _. refl;
      }

-- what a step makes of a shuttle with something left
pub record Steps (s t : Shuttle) : Type 0 where
  pub left : s.route ≡ t.at ∷ t.route
  pub to : t.at ≡ next_square s.route
  pub moves : t.moving ≡ true
  pub from : t.behind ≡ s.at

pub steps : (s : Shuttle) → is_empty s.route ≡ false → Steps s (stepped s)
unfolding stepped stepped_to is_empty next_square
steps s e = by_route s.route refl
  where
    by_route : (r : List ℕ) → s.route ≡ r → Steps s (stepped_to s r)
    by_route [] q = absurd (both_ways true (ap is_empty (sym q) ∙ e) refl)
    by_route (c ∷ cs) q = record { left = q; to = sym (ap next_square q); moves = refl; from = refl }

module _ {f : Field} {i : ℕ} {s : Shuttle} (p : Placed f i s) where
  -- one with nothing left is in its bay
  pub idle_home : is_empty s.route ≡ true → s.at ≡ f.bay i
  unfolding is_empty route_ok
  idle_home e = by_route s.route p.on_route e
    where
      by_route : (r : List ℕ) → route_ok f i s.at r ≡ true → is_empty r ≡ true → s.at ≡ f.bay i
      by_route [] h _ = eqb-true _ _ h
      by_route (c ∷ cs) h e = absurd (both_ways false refl e)

  pub placed_ordered : (r : List ℕ) → route_ok f i s.at r ≡ true → Placed f i (ordered s r)
  unfolding ordered
  placed_ordered r e = record {
    on_field = p.on_field;
    on_route = e;
    comes_from = λ e. absurd
        (both_ways false refl e);
    stands_on = λ _. refl;
  }

  pub placed_stepped : is_empty s.route ≡ false → Placed f i (stepped s)
  placed_stepped e =
      let h = steps s e in
      let m = route_tells f i s.at (stepped s).at (stepped s).route
      (subst (λ r. route_ok f i s.at r ≡ true) h.left p.on_route) in
      record {
        on_field = m.free;
        on_route = m.after;
        comes_from = λ _. (
          subst (λ c. beside f c (stepped s).at ≡ true) (sym h.from) m.next_to,
          subst (λ c. free_square f c ≡ true) (sym h.from)
              p.on_field,
        );
        stands_on = λ z. absurd (both_ways _ z h.moves);
      }

  pub placed_arrived : Placed f i (arrived s)
  unfolding arrived
  placed_arrived = record {
    on_field = p.on_field;
    on_route = p.on_route;
    comes_from = λ e. absurd
        (both_ways false refl e);
    stands_on = λ _. refl;
  }
