-- All come home: what is left falls with each step and arrival, and where none can be made all are home.
use Rattle.std.proofs.Common.{◌≡◌, ℕ, suc, ◌+◌, ◌<◌, true, false, cond, ◌⊎◌, List, [], ◌∷◌, ◌++◌, length, sym, refl, ap, ◌∙◌, inl, inr, ⊎_elim, arith}
use Rattle.std.proofs.lemmas.Bool.{both_ways, cases_Bool, and_cases, lt-ltb}
use Rattle.rules.specs.Tests.{is_empty}
use Rattle.rules.specs.Field.{Field, sound}
use Rattle.rules.specs.Shuttle.{Shuttle, Fleet, put, at_home, arrived}
use Rattle.rules.specs.Event.{Event, order, step, arrive, grants, arrives, does, who, becomes, happens, after}
use Rattle.rules.proofs.Tests.{empty_tells}
use Rattle.agents.specs.Kinds.{put as with_agent}
use Rattle.agents.proofs.Tests.{some_below}
use Rattle.agents.proofs.Going.{descend}
use Rattle.agents.proofs.Fleets.{sum_put}
use Rattle.promise.specs.Promise.{AllHome, no_order, Drives, nothing, then, WayHome, sum_to}
use Rattle.promise.specs.Promise.{squares_left, events_left, LessLeft, WorkFalls, EndsHome}
use Rattle.promise.proofs.Shuttles.{sum_is}
use Rattle.promise.proofs.Places.{steps, idle_home}
use Rattle.promise.proofs.Events.{Good, good_after, grants_tells, arrives_tells}
use Rattle.promise.proofs.GoingOn.{goes_on, done}

-- a sum after an event that happens
sum_done : (m : Shuttle → ℕ) (f : Field) (g : Fleet) (e : Event) → does f g e ≡ true → who e < f.shuttles →
    sum_to m (happens f g e) f.shuttles + m (g (who e)) ≡ sum_to m g f.shuttles + m (becomes e (g (who e)))
unfolding put with_agent
sum_done m f g e d l =
    let s = becomes e (g (who e)) in
    let n = f.shuttles in
    ap (λ x. sum_to m x n + m (g (who e))) (done f g e d) ∙ ap (λ x. x + m (g (who e))) (sym (sum_is m (put g (who e) s) n)) ∙ (sum_put m g
    (who e) s n).0 l ∙ ap (λ x. x + m s) (sum_is m g n)

-- a granted step leaves one square less, in any fleet
pub granted_less : (f : Field) (g : Fleet) (i : ℕ) → grants f g i ≡ true
    → suc (sum_to squares_left (happens f g (step i)) f.shuttles) ≡ sum_to squares_left g f.shuttles
unfolding does who becomes squares_left
granted_less f g i h =
    let t = grants_tells f g i h in
    let e = sum_done squares_left f g (step i) h t.there in
    let e' = ap length (steps (g i) t.something_left).left in omega arith

pub less_left : LessLeft
unfolding after
less_left f es i h = granted_less f (after f es) i h

-- each event that happens and is no order leaves one event less
pub event_falls : (f : Field) (g : Fleet) (e : Event) → no_order e ≡ true → does f g e ≡ true →
    suc (sum_to events_left (happens f g e) f.shuttles) ≡ sum_to events_left g f.shuttles
unfolding does who becomes events_left no_order arrived
event_falls f g (order i r) o d = absurd (both_ways false refl o)
event_falls f g (step i) o d =
    let t = grants_tells f g i d in
    let e = sum_done events_left f g (step i) d t.there in
    let q = steps (g i) t.something_left in
    let e' = ap length q.left in
    let m = ap (λ b. cond {A = ℕ} b 1 0) t.stands in
    let m' = ap (λ b. cond {A = ℕ} b 1 0) q.moves in
    omega arith
event_falls f g (arrive i) o d =
    let t = arrives_tells f g i d in
    let e = sum_done events_left f g (arrive i) d t.0 in
    let m = ap (λ b. cond {A = ℕ} b 1 0) t.1 in
    omega arith

pub work_falls : WorkFalls
unfolding after
work_falls f es ds r = falls r
  where
    falls : {ds : List Event} → Drives f es ds →
        length ds + sum_to events_left (after f (ds ++ es)) f.shuttles ≡ sum_to events_left (after f es) f.shuttles
    falls nothing = omega arith
    falls (then e ds o d r) = let h = falls r in let k = event_falls f (after f (ds ++ es)) e o d in omega arith

pub same_shuttle : (s t : Shuttle) → s.at ≡ t.at → s.moving ≡ t.moving → s.behind ≡ t.behind → s.route ≡ t.route → s ≡ t
same_shuttle s t a m b r k = record { at = a k; moving = m k; behind = b k; route = r k }

module _ (f : Field) (ok : sound f ≡ true) (g : Fleet) (p : Good f g) where
  all_home : ((i : ℕ) → i < f.shuttles → does f g (step i) ≡ false) → ((i : ℕ) → i < f.shuttles → does f g (arrive i) ≡ false) →
      AllHome f g
  unfolding does arrives at_home
  all_home no_step no_arrival i l =
      let stands : (j : ℕ) → j < f.shuttles →
      (g j).moving ≡ false = λ j m. ⊎_elim (λ a. absurd (both_ways _ a (lt-ltb j f.shuttles m))) (λ a. a)
      (and_cases _ _ (no_arrival j m)) in
      let idle : is_empty (g i).route ≡ true = ⊎_elim (λ e. e)
      (λ e. absurd (⊎_elim
      (λ (t : (j : ℕ) × (j < f.shuttles) × ((g j).moving ≡ true)). both_ways _ (stands t.0 t.1) t.2)
      (λ (t : (j : ℕ) × (j < f.shuttles) × (grants f g j ≡ true)). both_ways _ (no_step t.0 t.1) t.2)
      (goes_on f ok g p i l e)))
      (cases_Bool (is_empty (g i).route)) in
      let at = idle_home (p.each i l) idle in
      same_shuttle (g i) (at_home f i) at (stands i l) ((p.each i l).stands_on (stands i l) ∙ at) (empty_tells _ idle)

pub ends_home : EndsHome
ends_home f es ok s a = all_home f ok (after f es) (good_after f ok es) s a

pub way_home : WayHome
unfolding after no_order
way_home f es ok = let (a, _, h) = descend work (λ _. Unit {0}) (λ a. AllHome f (now a)) next ([], nothing) tt in (a.0, a.1, h)
  where
    Row : Type 0
    Row = (ds : List Event) × Drives f es ds

    now : Row → Fleet
    now a = after f (a.0 ++ es)

    work : Row → ℕ
    work a = sum_to events_left (now a) f.shuttles

    on : (a : Row) (e : Event) → no_order e ≡ true → does f (now a) e ≡ true → (b : Row) × Unit {0} × (work b < work a)
    on a e o d = ((e ∷ a.0, then e a.0 o d a.1), tt, let k = event_falls f (now a) e o d in omega arith)

    next : (a : Row) → Unit {0} → AllHome f (now a) ⊎ ((b : Row) × Unit {0} × (work b < work a))
    next a _ = ⊎_elim
        (λ (t : (i : ℕ) × (i < f.shuttles) × (does f (now a) (step i) ≡ true)). inr (on a (step t.0) refl t.2))
        (λ (s : (i : ℕ) → i < f.shuttles → does f (now a) (step i) ≡ false). ⊎_elim
        (λ (t : (i : ℕ) × (i < f.shuttles) × (does f (now a) (arrive i) ≡ true)). inr (on a (arrive t.0) refl t.2))
        (λ (h : (i : ℕ) → i < f.shuttles → does f (now a) (arrive i) ≡ false). inl (ends_home f (a.0 ++ es) ok s h))
        (some_below f.shuttles (λ i. does f (now a) (arrive i))))
        (some_below f.shuttles (λ i. does f (now a) (step i)))
