-- A fleet as it always is goes on: somebody moves or is granted a step, orders are taken, and a step is refused only for a reason.
use Rattle.std.proofs.Common.{◌≡◌, ℕ, ◌<◌, true, false, ◌⊎◌, [], ◌∷◌, sym, refl, ap, ◌∙◌, subst, inl, inr, ⊎_elim, arith}
use Rattle.std.proofs.lemmas.Bool.{both_ways, and_cases, not-false, lt-ltb, cond-true, cond-false, false_from_ne_true}
use Rattle.std.proofs.lemmas.Bool.Decides.{nat_tests}
use Rattle.rules.specs.Tests.{among, is_empty}
use Rattle.rules.specs.Field.{Field, sound}
use Rattle.rules.specs.Route.{route_ok}
use Rattle.rules.specs.Shuttle.{Fleet, put, ordered, next_square, stepped}
use Rattle.rules.specs.Event.{Event, order, takes, grants, does, who, becomes, happens, after}
use Rattle.agents.specs.Numbers.{among as is_in}
use Rattle.agents.specs.Kinds.{put as with_agent, blocks}
use Rattle.agents.proofs.Tests.{some_below, meets_from}
use Rattle.agents.proofs.Going.{below}
use Rattle.agents.proofs.Fleets.{put_here}
use Rattle.agents.proofs.Grants.{some_goes}
use Rattle.promise.specs.Promise.{Apart, SomeMoves, SomeGranted, NeverStuck, AlwaysTaken}
use Rattle.promise.specs.Promise.{AlwaysSafe, TryingIsRight, AlwaysPlaced, RefusedWhen}
use Rattle.promise.specs.Rule.{shuttles}
use Rattle.promise.proofs.Shuttles.{blocks_is, holds_is, safe_is, safe_all_go}
use Rattle.promise.proofs.Places.{route_avoids, steps, idle_home}
use Rattle.promise.proofs.Events.{takes_from, grants_from, Good, good_after}

pub apart : Apart
apart f es i j c ok l m ne h k =
    let g = after f es in both_ways _ ((good_after f ok es).apart i l j m ne)
    (meets_from (shuttles.held (g j)) (shuttles.held (g i)) c (holds_is (g j) c ∙ k) (holds_is (g i) c ∙ h))

pub always_safe : AlwaysSafe
always_safe f es ok = let g = after f es in (safe_is f.shuttles g).0 ((safe_all_go f.shuttles g).1 (good_after f ok es).all_go)

pub trying_is_right : TryingIsRight
trying_is_right n g = safe_is n g

pub always_placed : AlwaysPlaced
always_placed f es i ok l = (good_after f ok es).each i l

module _ (f : Field) (ok : sound f ≡ true) (g : Fleet) (p : Good f g) where
  -- one with nothing left blocks nobody, as its bay is on no other's route
  idle_blocks : (i j : ℕ) → i < f.shuttles → j < f.shuttles → (i ≡ j → ⊥) → is_empty (g j).route ≡ true → blocks shuttles g i j ≡ false
  idle_blocks i j l m ne e = false_from_ne_true _ (λ h.
      ne (route_avoids f ok i j l m (g i).at (g i).route (p.each i l).on_route
      (subst (λ c. among c (g i).route ≡ true) (idle_home (p.each j m) e) (sym (blocks_is g i j) ∙ h))))

  pub goes_on : (i : ℕ) → i < f.shuttles → is_empty (g i).route ≡ false → SomeMoves f g ⊎ SomeGranted f g
  unfolding is_in
  goes_on i l e = ⊎_elim inl
      (λ (still : (j : ℕ) → j < f.shuttles → (g j).moving ≡ false).
      let (k, a, b, h) = some_goes shuttles f.shuttles g (λ _. false) (λ _ _ z. absurd (omega arith))
      (λ j m c z. let s = still j m in grind (arith, nat_tests)) p.all_go idle_blocks i (p.all_go i l) e in
      let q = steps (g k) b in
      inr (
        k,
        below a,
        grants_from f g k (record {
          there = below a;
          stands = still k (below a);
          something_left = b;
          granted = h (next_square (g k).route ∷ []) (stepped (g k))
              (λ c z. let e = q.to in subst (λ r. is_in c r ≡ true) (sym q.left) (grind (arith, nat_tests)))
              (λ c z. subst (λ r. is_in c r ≡ true) (sym q.left) (grind (arith, nat_tests)))
              refl;
        }),
      ))
      (some_below f.shuttles (λ j. (g j).moving))

pub never_stuck : NeverStuck
never_stuck f es i ok l e = goes_on f ok (after f es) (good_after f ok es) i l e

-- an event that happens changes its shuttle and nothing else
pub done : (f : Field) (g : Fleet) (e : Event) → does f g e ≡ true → happens f g e ≡ put g (who e) (becomes e (g (who e)))
unfolding happens
done f g e h = cond-true (does f g e) _ g h

-- what does not happen changes nothing
pub not_done : (f : Field) (g : Fleet) (e : Event) → does f g e ≡ false → happens f g e ≡ g
unfolding happens
not_done f g e h = cond-false (does f g e) _ _ h

pub always_taken : AlwaysTaken
unfolding after does who becomes put with_agent ordered
always_taken f es i r ok l m e n h =
    let g = after f es in
    let t : takes f g i r ≡ true = takes_from f g i r
    (record {
      there = l;
      stands = m;
      nothing_left = e;
      short = n;
      good = subst (λ c. route_ok f i c r ≡ true)
          (sym (idle_home ((good_after f ok es).each i l) e)) h;
    }) in
    (t, ap (λ x. (x i).route) (done f g (order i r) t) ∙ ap (λ s. s.route) (put_here g i (ordered (g i) r)))

pub refused_when : RefusedWhen
unfolding grants
refused_when f g i l e =
    ⊎_elim (λ a. absurd (both_ways _ a (lt-ltb i f.shuttles l)))
    (λ a. ⊎_elim (λ b. inl (not-false _ b))
    (λ b. inr (⊎_elim (λ c. inl (not-false _ c))
    (λ c. inr (⊎_elim (λ d. inl (not-false _ d))
    (λ d. inr (λ s. both_ways _ d ((safe_is f.shuttles (put g i (stepped (g i)))).1 s)))
    (and_cases _ _ c)))
    (and_cases _ _ b)))
    (and_cases _ _ a))
    (and_cases _ _ e)
