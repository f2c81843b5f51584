-- Coming home by ticks: the fleets of a row of ticks are ticking, so the bound holds of them.
use Rattle.std.proofs.Common.{◌≡◌, ℕ, zero, suc, ◌*◌, ◌<◌, ◌≤◌, max, Bool, true, false, ◌&&◌, List, ◌∷◌, ◌++◌, length, sym, refl, ap, ◌∙◌, subst, inl, inr, ⊎_elim, arith}
use Rattle.std.proofs.lemmas.Bool.{both_ways, cases_eq, cases_lt, cond_both, and_parts, false_from_ne_true}
use Rattle.std.proofs.lemmas.Bool.Decides.{nat_tests}
use Rattle.rules.specs.Tests.{is_empty}
use Rattle.rules.specs.Field.{Field, sound}
use Rattle.rules.specs.Shuttle.{Shuttle, Fleet, put, arrived}
use Rattle.rules.specs.Event.{Event, step, grants, arrives, does, who, becomes, happens, after}
use Rattle.rules.proofs.Tests.{empty_tells, empty_from}
use Rattle.agents.specs.Kinds.{put as with_agent}
use Rattle.agents.proofs.Fleets.{put_other}
use Rattle.promise.specs.Promise.{SomeMoves, SomeGranted, AllHome, sum_to, squares_left}
use Rattle.promise.proofs.Events.{grants_tells}
use Rattle.promise.proofs.GoingOn.{never_stuck, not_done}
use Rattle.promise.proofs.Home.{less_left, ends_home}
use Rattle.turns.specs.Tick.{is_due, all_come, counted, chosen, granted_to, choose, tick}
use Rattle.turns.specs.Bound.{Ticking}
use Rattle.turns.specs.Home.{AnyTick, ArrivalsWithin, HomeInTime, ticks, HomeByTicks}
use Rattle.turns.proofs.Ticks.{due_come, Best, choice, come_row, none_granted}
use Rattle.turns.proofs.Bounds.{all_done_in_time}

-- sums
pub sum_same : (m : Shuttle → ℕ) (g h : Fleet) (n : ℕ) → ((i : ℕ) → i < n → m (g i) ≡ m (h i)) → sum_to m g n ≡ sum_to m h n
unfolding sum_to
sum_same m g h zero e = refl
sum_same m g h (suc n) e =
    let rest = sum_same m g h n (λ i l. e i (omega arith)) in
    let here = e n (omega arith) in omega arith

pub sum_some : (m : Shuttle → ℕ) (g : Fleet) (n : ℕ) → 0 < sum_to m g n → (i : ℕ) × (i < n) × (0 < m (g i))
unfolding sum_to
sum_some m g zero l = absurd (omega arith)
sum_some m g (suc n) l =
    let rest : 0 < sum_to m g n → (i : ℕ) × (i < n) × (0 < m (g i)) = sum_some m g n in
    ⊎_elim (λ b. let (i, a, c) = rest b in (i, omega arith, c)) (λ (b : sum_to m g n ≤ 0). (n, omega arith, omega arith))
    (cases_lt 0 (sum_to m g n))

pub sum_none : (m : Shuttle → ℕ) (g : Fleet) (n : ℕ) → sum_to m g n ≡ 0 → (i : ℕ) → i < n → m (g i) ≡ 0
unfolding sum_to
sum_none m g zero e i l = absurd (omega arith)
sum_none m g (suc n) e i l =
    let rest : i < n → m (g i) ≡ 0 = sum_none m g n (omega arith) i in
    let here : m (g n) ≡ 0 = omega arith in
    ⊎_elim rest (λ (b : n ≤ i). let q : n ≡ i = omega arith in subst (λ x. m (g x) ≡ 0) q here) (cases_lt i n)

-- an event changes nobody else
pub others_stay : (f : Field) (g : Fleet) (e : Event) (i : ℕ) → (i ≡ who e → ⊥) → happens f g e i ≡ g i
unfolding happens put with_agent
others_stay f g e i ne =
    let s = becomes e (g (who e)) in cond_both (does f g e) (put g (who e) s) g (λ h. h i ≡ g i) (λ _. put_other g (who e) s i ne) (λ _. refl)

-- the arrivals leave as many squares to go
pub all_come_left : (f : Field) (g : Fleet) (marks : List ℕ) → sum_to squares_left (all_come f g marks)
    f.shuttles ≡ sum_to squares_left g f.shuttles
unfolding squares_left arrived
all_come_left f g marks = sum_same squares_left (all_come f g marks) g f.shuttles (λ i l. ⊎_elim
    (λ (t : (is_due marks i ≡ true) × ((g i).moving ≡ true) × (all_come f g marks i ≡ arrived (g i))). ap squares_left t.2)
    (λ (t : ((is_due marks i && (g i).moving) ≡ false) × (all_come f g marks i ≡ g i)). ap squares_left t.1)
    (due_come f g marks i l))

-- whoever moves after the arrivals was moving, and is not due
pub all_come_moves : (f : Field) (g : Fleet) (marks : List ℕ) (i : ℕ) → i < f.shuttles → (all_come f g marks i).moving ≡ true →
    ((g i).moving ≡ true) × (is_due marks i ≡ false)
unfolding arrived
all_come_moves f g marks i l m = ⊎_elim
    (λ (t : (is_due marks i ≡ true) × ((g i).moving ≡ true) × (all_come f g marks i ≡ arrived (g i))).
    absurd (both_ways (all_come f g marks i).moving (ap (λ s. s.moving) t.2) m))
    (λ (t : ((is_due marks i && (g i).moving) ≡ false) × (all_come f g marks i ≡ g i)).
    let e : (g i).moving ≡ true = ap (λ s. s.moving) (sym t.1) ∙ m in let o = t.0 in (e, grind (arith, nat_tests)))
    (due_come f g marks i l)

-- a fleet is reached by a row of events, and so after the arrivals that are due
abbrev pub Reached : Field → Fleet → Type 0
Reached f g = (rs : List Event) × (g ≡ after f rs)

pub come_reached : (f : Field) (g : Fleet) (ms : List ℕ) → Reached f g → Reached f (all_come f g ms)
unfolding all_come
come_reached f g ms (rs, e) =
    let t = come_row f rs ms f.shuttles (omega arith) in (t.ds ++ rs, ap (λ x. all_come f x ms) e ∙ t.same)

module _ (f : Field) (es : List Event) (fleets : ℕ → Fleet) (marks : ℕ → List ℕ) (whose : ℕ → ℕ) (ok : sound f ≡ true)
    (start : fleets 0 ≡ after f es) (each : (t : ℕ) → AnyTick f (fleets t) (marks t) (whose t) (fleets (suc t))) where
  pub reached : (t : ℕ) → Reached f (fleets t)
  unfolding after
  reached zero = (es, start)
  reached (suc t) =
      let (rs, e) = come_reached f (fleets t) (marks t) (reached t) in
      (step (whose t) ∷ rs, (each t).made ∙ ap (λ x. happens f x (step (whose t))) e)

  at_choice : ℕ → Fleet
  at_choice t = all_come f (fleets t) (marks t)

  -- a tick that names nobody changes nothing more
  nobody_steps : (t : ℕ) → f.shuttles ≤ whose t → fleets (suc t) ≡ at_choice t
  unfolding does at_choice
  nobody_steps t l = (each t).made ∙ not_done f (at_choice t) (step (whose t)) (none_granted f (at_choice t) (whose t) l)

  left : ℕ → ℕ
  left t = sum_to squares_left (fleets t) f.shuttles

  moves : ℕ → ℕ → Bool
  moves t i = (fleets t i).moving

  due : ℕ → ℕ → Bool
  due t i = is_due (marks t) i

  ticking : Ticking f.shuttles left moves due whose
  unfolding left moves due at_choice does who after squares_left
  ticking = record {
    one_less = λ t l. ⊎_elim
        (λ (h : grants f (at_choice t) (whose t) ≡ true).
        let (rs, e) = come_reached f (fleets t) (marks t) (reached t) in
        let q = less_left f rs (whose t) (subst (λ x. grants f x (whose t) ≡ true) e h) in
        let a = all_come_left f (fleets t) (marks t) in
        let b : left (suc t) ≡ sum_to squares_left (after f (step (whose t) ∷ rs)) f.shuttles = ap
        (λ x. sum_to squares_left x f.shuttles)
        ((each t).made ∙ ap (λ x. happens f x (step (whose t))) e) in
        let c : sum_to squares_left (at_choice t) f.shuttles ≡ sum_to squares_left (after f rs) f.shuttles =
        ap (λ x. sum_to squares_left x f.shuttles) e in
        omega arith)
        (λ (h : (whose t ≡ f.shuttles) × ((i : ℕ) → i < f.shuttles → grants f (at_choice t) i ≡ false)). let z = h.0 in absurd
        (omega arith))
        (each t).right;
    as_much = λ t l. ap (λ x. sum_to squares_left x f.shuttles) (nobody_steps t l) ∙ all_come_left f (fleets t) (marks t);
    not_stuck = λ t l z.
        let (rs, e) = come_reached f (fleets t) (marks t) (reached t) in
        let a = all_come_left f (fleets t) (marks t) in
        let (i, b, c) = sum_some squares_left (at_choice t) f.shuttles (omega arith) in
        let c' : 0 < length (after f rs i).route = subst (λ x. 0 < length (x i).route) e c in
        let some : is_empty (after f rs i).route ≡ false = false_from_ne_true _ (λ y. let y' = ap length (empty_tells _ y) in omega arith) in
        ⊎_elim
        (λ (s : SomeMoves f (after f rs)). (s.0, s.1, ap (λ x. (x s.0).moving) (nobody_steps t l ∙ e) ∙ s.2))
        (λ (s : SomeGranted f (after f rs)). absurd (⊎_elim
        (λ (h : grants f (at_choice t) (whose t) ≡ true). both_ways _ (none_granted f (at_choice t) (whose t) l) h)
        (λ (h : (whose t ≡ f.shuttles) × ((i : ℕ) → i < f.shuttles → grants f (at_choice t) i ≡ false)).
        both_ways _ (h.1 s.0 s.1) (subst (λ x. grants f x s.0 ≡ true) (sym e) s.2))
        (each t).right))
        (never_stuck f rs i ok b some);
    on_its_way = λ t i l m. ⊎_elim
        (λ (e : i ≡ whose t). inl (sym e))
        (λ ne. inr (all_come_moves f (fleets t) (marks t) i l
        (ap (λ s. s.moving) (sym (others_stay f (at_choice t) (step (whose t)) i ne)) ∙ ap (λ x. (x i).moving) (sym (each t).made) ∙ m)))
        (cases_eq i (whose t));
  }

  home : (d : ℕ) → ArrivalsWithin f fleets marks whose d → (t : ℕ) →
      suc (sum_to squares_left (after f es) f.shuttles) * max d 1 ≤ t → AllHome f (fleets t)
  unfolding left moves due does arrives squares_left
  home d c t h =
      let e : left 0 ≡ sum_to squares_left (after f es) f.shuttles = ap (λ x. sum_to squares_left x f.shuttles) start in
      let done = all_done_in_time f.shuttles left moves due whose d ticking c t
      (subst (λ x. suc x * max d 1 ≤ t) (sym e) h) in
      let (rs, r) = reached t in
      subst (AllHome f) (sym r) (ends_home f rs ok
      (λ i l. false_from_ne_true _ (λ y. let s = (grants_tells f (after f rs) i y).something_left in
      both_ways _ s (empty_from _ (ap (λ x. length (x i).route) (sym r) ∙ sum_none squares_left (fleets t) f.shuttles done.0 i l))))
      (λ i l. false_from_ne_true _ (λ y. both_ways _ (ap (λ x. (x i).moving) (sym r) ∙ done.1 i l) (and_parts _ _ y).1)))

pub home_in_time : HomeInTime
home_in_time f es fleets marks whose d ok start each c t h = home f es fleets marks whose ok start each d c t h

-- a tick is one of any choice
pub tick_any : (f : Field) (g : Fleet) (ws marks : List ℕ) → AnyTick f g marks (tick f g ws marks).whose (tick f g ws marks).fleet
unfolding tick choose granted_to
tick_any f g ws marks =
    let h = all_come f g marks in
    let vs = counted f h ws in
    record { made = refl; right = ⊎_elim (λ (b : Best f h vs f.shuttles (chosen f h vs)). inl b.granted) inr (choice f h vs) }

pub home_by_ticks : HomeByTicks
unfolding ticks
home_by_ticks f es s marks d ok start c t h =
    home_in_time f es (λ t. (ticks f s marks t).fleet) marks (λ t. (ticks f s marks (suc t)).whose) d ok start
    (λ t. tick_any f (ticks f s marks t).fleet (ticks f s marks t).waits (marks t)) c t h
