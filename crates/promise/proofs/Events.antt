-- What each event keeps: each shuttle is where it may be, no two hold a square together, and everybody can go.
use Rattle.std.proofs.Common.{◌≡◌, ℕ, ◌<◌, ◌≤◌, true, false, ◌||◌, eqb, List, [], ◌∷◌, length, sym, refl, ◌∙◌, subst, ⊎_elim, arith}
use Rattle.std.proofs.lemmas.Bool.{cases_eq, both_ways, and_parts, and_from, not-true, not_from_false, ltb-true, lt-ltb, leb-true, le-leb, cond_both, false_from_ne_true}
use Rattle.std.proofs.lemmas.Bool.Decides.{nat_tests}
use Rattle.rules.specs.Tests.{among, is_empty}
use Rattle.rules.specs.Field.{Field, sound}
use Rattle.rules.specs.Route.{route_ok}
use Rattle.rules.specs.Shuttle.{Shuttle, Fleet, put, at_home, ordered, next_square, stepped, arrived}
use Rattle.rules.specs.Event.{Event, order, step, arrive, takes, grants, arrives, does, who, becomes, happens, after}
use Rattle.agents.specs.Numbers.{among as is_in, meets, Within}
use Rattle.agents.specs.Going.{goes}
use Rattle.agents.specs.Kinds.{put as with_agent, may, GoesUnder, AllGo, Apart}
use Rattle.agents.proofs.Fleets.{put_each}
use Rattle.agents.proofs.Changes.{meets_within, kept_less, kept_aside, goes_last, apart_put}
use Rattle.agents.proofs.Grants.{may_is, granted_apart}
use Rattle.promise.specs.Promise.{Placed}
use Rattle.promise.specs.Rule.{shuttles}
use Rattle.promise.proofs.Shuttles.{one_meets, meets_one, blocks_is, rule_is_the_same}
use Rattle.promise.proofs.Places.{bays_differ, route_avoids, placed_home, steps, idle_home, placed_ordered, placed_stepped, placed_arrived}

-- when an event happens, part by part
pub record Taken (f : Field) (g : Fleet) (i : ℕ) (r : List ℕ) : Type 0 where
  pub there : i < f.shuttles
  pub stands : (g i).moving ≡ false
  pub nothing_left : is_empty (g i).route ≡ true
  pub short : length r ≤ 256
  pub good : route_ok f i (g i).at r ≡ true

pub record GrantedStep (f : Field) (g : Fleet) (i : ℕ) : Type 0 where
  pub there : i < f.shuttles
  pub stands : (g i).moving ≡ false
  pub something_left : is_empty (g i).route ≡ false
  pub granted : may shuttles f.shuttles g i (next_square (g i).route ∷ []) (stepped (g i)) ≡ true

pub takes_tells : (f : Field) (g : Fleet) (i : ℕ) (r : List ℕ) → takes f g i r ≡ true → Taken f g i r
unfolding takes
takes_tells f g i r e =
    let (a, p) = and_parts _ _ e in
    let (b, q) = and_parts _ _ p in
    let (c, s) = and_parts _ _ q in
    let (d, t) = and_parts _ _ s in
    record { there = ltb-true _ _ a; stands = not-true _ b; nothing_left = c; short = leb-true _ _ d; good = t }

pub takes_from : (f : Field) (g : Fleet) (i : ℕ) (r : List ℕ) → Taken f g i r → takes f g i r ≡ true
unfolding takes
takes_from f g i r t =
    and_from _ _ (lt-ltb _ _ t.there)
    (and_from _ _ (not_from_false _ t.stands) (and_from _ _ t.nothing_left (and_from _ _ (le-leb _ _ t.short) t.good)))

pub grants_tells : (f : Field) (g : Fleet) (i : ℕ) → grants f g i ≡ true → GrantedStep f g i
grants_tells f g i e =
    let (a, p) = and_parts _ _ (sym (rule_is_the_same f g i) ∙ e) in
    let (b, q) = and_parts _ _ p in
    let (c, s) = and_parts _ _ q in
    record { there = ltb-true _ _ a; stands = not-true _ b; something_left = not-true _ c; granted = s }

pub grants_from : (f : Field) (g : Fleet) (i : ℕ) → GrantedStep f g i → grants f g i ≡ true
grants_from f g i t =
    rule_is_the_same f g i ∙ and_from _ _ (lt-ltb _ _ t.there)
    (and_from _ _ (not_from_false _ t.stands) (and_from _ _ (not_from_false _ t.something_left) t.granted))

pub arrives_tells : (f : Field) (g : Fleet) (i : ℕ) → arrives f g i ≡ true → (i < f.shuttles) × ((g i).moving ≡ true)
unfolding arrives
arrives_tells f g i e = let (a, b) = and_parts _ _ e in (ltb-true _ _ a, b)

-- a fleet as it always is
pub record Good (f : Field) (g : Fleet) : Type 0 where
  pub each : (i : ℕ) → i < f.shuttles → Placed f i (g i)
  pub apart : Apart shuttles f.shuttles g
  pub all_go : AllGo shuttles f.shuttles g

module _ (f : Field) (g : Fleet) (p : Good f g) (i : ℕ) (l : i < f.shuttles) where
  each_put : (s : Shuttle) → Placed f i s → (j : ℕ) → j < f.shuttles → Placed f j (with_agent g i s j)
  each_put s q = put_each (λ j t. j < f.shuttles → Placed f j t) g i s (λ _. q) (λ j _. p.each j)

  -- one that stands where it was holds no more than it held
  apart_stands : (s : Shuttle) → s.at ≡ (g i).at → s.moving ≡ false → Apart shuttles f.shuttles (with_agent g i s)
  unfolding is_in
  apart_stands s e m = apart_put shuttles f.shuttles g i s p.apart (λ j k ne. false_from_ne_true _ (λ h.
      both_ways _ (p.apart i l j k ne)
      (meets_within (shuttles.held (g j)) (shuttles.held s) (shuttles.held (g j)) (shuttles.held (g i)) (λ _ a. a)
      (λ c a. grind (arith, nat_tests)) h)))

  -- an order: the shuttle is in its bay, which is on nobody else's route, and whoever blocks it can go
  pub order_keeps : sound f ≡ true → (r : List ℕ) → Taken f g i r → Good f (put g i (ordered (g i) r))
  unfolding put with_agent ordered
  order_keeps ok r t =
      let s = ordered (g i) r in
      let n = f.shuttles in
      let aside : (j : ℕ) → j < n → (j ≡ i → ⊥) →
      meets (shuttles.settled s) (g j).route ≡ false = λ j m ne. false_from_ne_true _
      (λ h. ne (route_avoids f ok j i m l (g j).at (g j).route (p.each j m).on_route
      (subst (λ c. among c (g j).route ≡ true) (idle_home (p.each i l) t.nothing_left)
      (sym (one_meets (g i).at (g j).route) ∙ h)))) in
      record {
        each = each_put s (placed_ordered (p.each i l) r t.good);
        apart = apart_stands s refl refl;
        all_go = λ j m. ⊎_elim
            (λ e. subst (GoesUnder shuttles n (with_agent g i s) (λ _. false)) (sym e)
            (goes_last shuttles n g i s (λ _. false) l refl aside (λ a b _ _. p.all_go a b)))
            (λ ne. kept_aside shuttles n g i s (λ _. false) aside j ne (p.all_go j m))
            (cases_eq j i);
      }

  -- a step that is granted
  pub step_keeps : GrantedStep f g i → Good f (put g i (stepped (g i)))
  unfolding put with_agent is_in
  step_keeps t =
      let n = f.shuttles in
      let c = next_square (g i).route in
      let h = (may_is shuttles n g i (c ∷ []) (stepped (g i))).0 t.granted in
      let q = steps (g i) t.something_left in
      record {
        each = each_put (stepped (g i)) (placed_stepped (p.each i l) t.something_left);
        apart = granted_apart shuttles n g i (c ∷ []) (stepped (g i)) p.apart l
            (λ x a. let e₁ = q.to in let e₂ = q.moves in let e₃ = q.from in grind (arith, nat_tests)) h;
        all_go = h.all;
      }

  -- an arrival: it settles where it did and needs what it did
  pub arrive_keeps : Good f (put g i (arrived (g i)))
  unfolding put with_agent arrived
  arrive_keeps = record {
    each = each_put (arrived (g i)) (placed_arrived (p.each i l));
    apart = apart_stands (arrived (g i)) refl refl;
    all_go = λ j m. kept_less shuttles f.shuttles g (with_agent g i (arrived (g i))) (λ _. false)
        (λ a _. put_each (λ a s. Within (shuttles.settled s) (shuttles.settled (g a)) × Within s.route (g a).route ×
        (false ≡ true → false ≡ true)) g i (arrived (g i)) (λ _ z. z, λ _ z. z, λ z. z) (λ _ _. (λ _ z. z, λ _ z. z, λ z. z)) a)
        j (p.all_go j m);
  }

module _ (f : Field) (ok : sound f ≡ true) where
  -- all at home
  pub good_home : Good f (at_home f)
  unfolding at_home is_in among
  good_home = record {
    each = placed_home f ok;
    apart = λ i l j m ne. false_from_ne_true _
        (λ h. ne (bays_differ f ok i j l m
        (let h' : (eqb (f.bay i) (f.bay j) || false) ≡ true = sym (meets_one (f.bay j ∷ []) (f.bay i)) ∙ h in
        grind (arith, nat_tests))));
    all_go = λ i l. goes i l refl (λ j m ne e. absurd (both_ways false refl (sym (blocks_is (at_home f) i j) ∙ e)));
  }

  pub good_happens : (g : Fleet) (e : Event) → Good f g → Good f (happens f g e)
  unfolding happens does who becomes
  good_happens g (order i r) p = cond_both (takes f g i r) _ g (Good f)
      (λ e. let t = takes_tells f g i r e in order_keeps f g p i t.there ok r t) (λ _. p)
  good_happens g (step i) p = cond_both (grants f g i) _ g (Good f) (λ e. let t = grants_tells f g i e in step_keeps f g p i t.there t)
      (λ _. p)
  good_happens g (arrive i) p = cond_both (arrives f g i) _ g (Good f) (λ e. arrive_keeps f g p i (arrives_tells f g i e).0) (λ _. p)

  -- and so after every row of events
  pub good_after : (es : List Event) → Good f (after f es)
  unfolding after
  good_after [] = good_home
  good_after (e ∷ es) = good_happens (after f es) e (good_after es)
