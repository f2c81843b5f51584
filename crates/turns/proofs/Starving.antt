-- One that never gets a step: the eight states that the hall goes through, again and again.
use Rattle.std.proofs.Common.{◌≡◌, ℕ, zero, suc, ◌+◌, ◌<◌, ◌≤◌, true, false, ◌⊎◌, List, [], ◌∷◌, get_or, sym, refl, ap, ◌∙◌, subst, inl, inr, ⊎_elim, arith, lit<}
use Rattle.std.proofs.lemmas.Bool.{cases_eq, cond_both, le-leb}
use Rattle.rules.specs.Tests.{every_to, any_to, every, among, is_empty}
use Rattle.rules.specs.Field.{Field, is_bay_to, is_bay, free_square, bay_ok, sound, beside}
use Rattle.rules.specs.Route.{step_ok, route_ok}
use Rattle.rules.specs.Shuttle.{Shuttle, Fleet, holds, held_by_other, put, at_home, ordered, next_square, stepped_to, stepped, arrived}
use Rattle.rules.specs.Safe.{clear_of, all_to, without, first_clear, on_first, try, safe}
use Rattle.rules.specs.Event.{order, step, arrive, takes, grants, arrives, does, who, becomes, happens}
use Rattle.turns.specs.Tick.{is_due, come, come_to, all_come, waits, one_more, counted_to, counted, better, chosen_to}
use Rattle.turns.specs.Tick.{chosen, Turn, granted_to, choose, tick}
use Rattle.turns.specs.Night.{give, give_to, all_given, next, night}
use Rattle.turns.specs.Starving.{corner, way, since, again, at_once, hall, Starves}
use Rattle.turns.proofs.Ticks.{none_granted}
use Rattle.turns.proofs.Home.{others_stay}
use Rattle.promise.proofs.GoingOn.{not_done}

-- nobody beyond the fleet changes
module _ (f : Field) (i : ℕ) (l : f.shuttles ≤ i) where
  given_beyond : (g : Fleet) (routes : ℕ → List ℕ) (k : ℕ) → k ≤ f.shuttles → give_to f g routes k i ≡ g i
  unfolding give_to give who
  given_beyond g routes zero m = refl
  given_beyond g routes (suc k) m =
      let h = give_to f g routes k in
      let before : h i ≡ g i = given_beyond g routes k (omega arith) in
      cond_both (is_empty (routes k)) h (happens f h (order k (routes k))) (λ x. x i ≡ g i) (λ _. before)
      (λ _. others_stay f h (order k (routes k)) i (omega arith) ∙ before)

  come_beyond : (g : Fleet) (marks : List ℕ) (k : ℕ) → k ≤ f.shuttles → come_to f g marks k i ≡ g i
  unfolding come_to come who
  come_beyond g marks zero m = refl
  come_beyond g marks (suc k) m =
      let h = come_to f g marks k in
      let before : h i ≡ g i = come_beyond g marks k (omega arith) in
      cond_both (is_due marks k) (happens f h (arrive k)) h (λ x. x i ≡ g i) (λ _. others_stay f h (arrive k) i (omega arith) ∙ before)
      (λ _. before)

  next_beyond : (s : Turn) (routes : ℕ → List ℕ) (marks : List ℕ) → (next f s routes marks).fleet i ≡ s.fleet i
  unfolding next tick choose granted_to all_come all_given does who
  next_beyond s routes marks =
      let g = all_given f s.fleet routes in
      let h = all_come f g marks in
      let w = chosen f h (counted f h s.waits) in
      let rest : h i ≡ s.fleet i = come_beyond g marks f.shuttles (omega arith) ∙ given_beyond s.fleet routes f.shuttles
      (omega arith) in
      ⊎_elim
      (λ (e : w ≡ i). ap (λ x. x i) (not_done f h (step w) (none_granted f h w (omega arith))) ∙ rest)
      (λ (ne : w ≡ i → ⊥). others_stay f h (step w) i (λ e. ne (sym e)) ∙ rest)
      (cases_eq w i)

-- it stands on c, or moves from b to c, with r left
abbrev on : ℕ → List ℕ → Shuttle
on c r = record { at = c; moving = false; behind = c; route = r }

abbrev to : ℕ → ℕ → List ℕ → Shuttle
to b c r = record { at = c; moving = true; behind = b; route = r }

abbrev three : Shuttle → Shuttle → Shuttle → Fleet
three a b c i = get_or (a ∷ b ∷ c ∷ []) i (on 0 [])

abbrev turn : (a b c : Shuttle) (u v w n : ℕ) → Turn
turn a b c u v w n = record { fleet = three a b c; waits = u ∷ v ∷ w ∷ []; whose = n }

same_turn : (s t : Turn) → ((i : ℕ) → s.fleet i ≡ t.fleet i) → s.waits ≡ t.waits → s.whose ≡ t.whose → s ≡ t
same_turn s t a b c k = record { fleet = λ i. a i k; waits = b k; whose = c k }

-- a with its whole route
abbrev a : Shuttle
a = on 3 (4 ∷ 1 ∷ 2 ∷ 1 ∷ 4 ∷ 3 ∷ [])

-- the eight states, from the sixth tick on; u is how long a has waited
abbrev cycle : List (ℕ → Turn)
cycle =
    (λ u. turn a (to 2 1 (4 ∷ 5 ∷ [])) (on 0 []) u 0 0 1)
    ∷ (λ u. turn a (to 1 4 (5 ∷ [])) (on 0 (1 ∷ 4 ∷ 1 ∷ 0 ∷ [])) u 0 1 1)
    ∷ (λ u. turn a (on 4 (5 ∷ [])) (to 0 1 (4 ∷ 1 ∷ 0 ∷ [])) u 1 0 2)
    ∷ (λ u. turn a (to 4 5 []) (on 1 (4 ∷ 1 ∷ 0 ∷ [])) u 0 1 1)
    ∷ (λ u. turn a (on 5 []) (to 1 4 (1 ∷ 0 ∷ [])) u 0 0 2)
    ∷ (λ u. turn a (to 5 2 (1 ∷ 4 ∷ 5 ∷ [])) (on 4 (1 ∷ 0 ∷ [])) u 0 1 1)
    ∷ (λ u. turn a (on 2 (1 ∷ 4 ∷ 5 ∷ [])) (to 4 1 (0 ∷ [])) u 1 0 2)
    ∷ (λ u. turn a (on 2 (1 ∷ 4 ∷ 5 ∷ [])) (to 1 0 []) u 2 0 2)
    ∷ []

abbrev at_phase : ℕ → ℕ → Turn
at_phase p u = get_or cycle p (λ u. turn a a a u 0 0 0) u

abbrev after_phase : ℕ → ℕ
after_phase p = get_or (1 ∷ 2 ∷ 3 ∷ 4 ∷ 5 ∷ 6 ∷ 7 ∷ 0 ∷ []) p 0

below_8 : (P : ℕ → Type 0) → P 0 → P 1 → P 2 → P 3 → P 4 → P 5 → P 6 → P 7 → (p : ℕ) → p < 8 → P p
below_8 P x0 x1 x2 x3 x4 x5 x6 x7 zero l = x0
below_8 P x0 x1 x2 x3 x4 x5 x6 x7 (suc zero) l = x1
below_8 P x0 x1 x2 x3 x4 x5 x6 x7 (suc (suc zero)) l = x2
below_8 P x0 x1 x2 x3 x4 x5 x6 x7 (suc (suc (suc zero))) l = x3
below_8 P x0 x1 x2 x3 x4 x5 x6 x7 (suc (suc (suc (suc zero)))) l = x4
below_8 P x0 x1 x2 x3 x4 x5 x6 x7 (suc (suc (suc (suc (suc zero))))) l = x5
below_8 P x0 x1 x2 x3 x4 x5 x6 x7 (suc (suc (suc (suc (suc (suc zero)))))) l = x6
below_8 P x0 x1 x2 x3 x4 x5 x6 x7 (suc (suc (suc (suc (suc (suc (suc zero))))))) l = x7
below_8 P x0 x1 x2 x3 x4 x5 x6 x7 (suc (suc (suc (suc (suc (suc (suc (suc p)))))))) l = absurd (omega arith)

-- what a computation has to open: of the field and the routes, of the shuttles and their steps, of the ticks
field_open : ℕ
unfolding every_to any_to every among is_empty is_bay_to is_bay free_square bay_ok sound beside step_ok route_ok corner way
field_open = 0

shuttles_open : ℕ
unfolding holds held_by_other put at_home ordered next_square stepped_to stepped arrived clear_of all_to without first_clear on_first try safe
shuttles_open = 0

events_open : ℕ
unfolding takes grants arrives does who becomes happens is_due come come_to all_come waits one_more counted_to counted better chosen_to
events_open = 0

all_open : ℕ
unfolding field_open shuttles_open events_open chosen granted_to choose tick give give_to all_given next at_once
all_open = 0

-- a tick leads from one such turn to another, if it does so at the three shuttles, and in the waits and the choice
made : (s t : Turn) (routes : ℕ → List ℕ) → ((i : ℕ) → s.fleet (suc (suc (suc i))) ≡ t.fleet (suc (suc (suc i)))) →
    (next corner s routes (at_once 0)).fleet 0 ≡ t.fleet 0 → (next corner s routes (at_once 0)).fleet 1 ≡ t.fleet 1 →
    (next corner s routes (at_once 0)).fleet 2 ≡ t.fleet 2 → (next corner s routes (at_once 0)).waits ≡ t.waits →
    (next corner s routes (at_once 0)).whose ≡ t.whose → next corner s routes (at_once 0) ≡ t
unfolding corner
made s t routes out p q r v w = same_turn (next corner s routes (at_once 0)) t each v w
  where
    each : (i : ℕ) → (next corner s routes (at_once 0)).fleet i ≡ t.fleet i
    each zero = p
    each (suc zero) = q
    each (suc (suc zero)) = r
    each (suc (suc (suc i))) = next_beyond corner (suc (suc (suc i))) (omega arith) s routes (at_once 0) ∙ out i

-- each state leads to the next one
turns_on : (u p : ℕ) → p < 8 → next corner (at_phase p u) way (at_once 0) ≡ at_phase (after_phase p) (suc u)
unfolding all_open
turns_on u = below_8 (λ p. next corner (at_phase p u) way (at_once 0) ≡ at_phase (after_phase p) (suc u))
    (made (at_phase 0 u) (at_phase 1 (suc u)) way (λ _. refl) refl refl refl refl refl)
    (made (at_phase 1 u) (at_phase 2 (suc u)) way (λ _. refl) refl refl refl refl refl)
    (made (at_phase 2 u) (at_phase 3 (suc u)) way (λ _. refl) refl refl refl refl refl)
    (made (at_phase 3 u) (at_phase 4 (suc u)) way (λ _. refl) refl refl refl refl refl)
    (made (at_phase 4 u) (at_phase 5 (suc u)) way (λ _. refl) refl refl refl refl refl)
    (made (at_phase 5 u) (at_phase 6 (suc u)) way (λ _. refl) refl refl refl refl refl)
    (made (at_phase 6 u) (at_phase 7 (suc u)) way (λ _. refl) refl refl refl refl refl)
    (made (at_phase 7 u) (at_phase 0 (suc u)) way (λ _. refl) refl refl refl refl refl)

-- the first six ticks
abbrev early : List Turn
early =
    turn (on 3 []) (on 5 []) (on 0 []) 0 0 0 3
    ∷ turn (on 3 []) (on 5 []) (to 0 1 (4 ∷ 1 ∷ 0 ∷ [])) 0 0 0 2
    ∷ turn (on 3 []) (on 5 []) (to 1 4 (1 ∷ 0 ∷ [])) 0 0 0 2
    ∷ turn (on 3 []) (to 5 2 (1 ∷ 4 ∷ 5 ∷ [])) (on 4 (1 ∷ 0 ∷ [])) 0 0 1 1
    ∷ turn (on 3 []) (on 2 (1 ∷ 4 ∷ 5 ∷ [])) (to 4 1 (0 ∷ [])) 0 1 0 2
    ∷ turn (on 3 []) (on 2 (1 ∷ 4 ∷ 5 ∷ [])) (to 1 0 []) 0 2 0 2
    ∷ at_phase 0 1
    ∷ []

abbrev at_early : ℕ → Turn
at_early t = get_or early t (at_phase 0 0)

begins : hall 0 ≡ at_early 0
unfolding all_open hall night
begins = same_turn (hall 0) (at_early 0) each refl refl
  where
    each : (i : ℕ) → (hall 0).fleet i ≡ (at_early 0).fleet i
    each zero = refl
    each (suc zero) = refl
    each (suc (suc zero)) = refl
    each (suc (suc (suc i))) = refl

-- one tick more, from a known state
one_on : (t : ℕ) (s s' : Turn) → hall t ≡ s → next corner s (again t) (at_once 0) ≡ s' → hall (suc t) ≡ s'
unfolding hall night at_once
one_on t s s' e n = ap (λ x. next corner x (again t) (at_once 0)) e ∙ n

first_six : (hall 1 ≡ at_early 1) × (hall 2 ≡ at_early 2) × (hall 3 ≡ at_early 3) × (hall 4 ≡ at_early 4) × (hall 5 ≡ at_early 5) ×
    (hall 6 ≡ at_phase 0 1)
unfolding all_open again since
first_six =
    let e1 = one_on 0 (at_early 0) (at_early 1) begins (made (at_early 0) (at_early 1) (again 0) (λ _. refl) refl refl refl refl refl) in
    let e2 = one_on 1 (at_early 1) (at_early 2) e1 (made (at_early 1) (at_early 2) (again 1) (λ _. refl) refl refl refl refl refl) in
    let e3 = one_on 2 (at_early 2) (at_early 3) e2 (made (at_early 2) (at_early 3) (again 2) (λ _. refl) refl refl refl refl refl) in
    let e4 = one_on 3 (at_early 3) (at_early 4) e3 (made (at_early 3) (at_early 4) (again 3) (λ _. refl) refl refl refl refl refl) in
    let e5 = one_on 4 (at_early 4) (at_early 5) e4 (made (at_early 4) (at_early 5) (again 4) (λ _. refl) refl refl refl refl refl) in
    let e6 = one_on 5 (at_early 5) (at_phase 0 1) e5 (made (at_early 5) (at_phase 0 1) (again 5) (λ _. refl) refl refl refl refl refl) in
    (e1, e2, e3, e4, e5, e6)

-- from then on all are given their routes
later : (t : ℕ) (s : Turn) → 5 ≤ t → next corner s (again t) (at_once 0) ≡ next corner s way (at_once 0)
unfolding next all_given give_to give corner again since
later t s l =
    let a0 = le-leb 5 t l in
    let a1 = le-leb 2 t (omega arith) in
    let a2 = le-leb 0 t (omega arith) in
    ap (λ g. tick corner g s.waits (at_once 0)) (rw (a0, a1, a2))

-- the phase after the sixth tick and t more
phase : ℕ → ℕ
phase zero = 0
phase (suc t) = after_phase (phase t)

phase_below : (t : ℕ) → phase t < 8
unfolding phase
phase_below zero = lit< tt
phase_below (suc t) = below_8 (λ p. after_phase p < 8) (lit< tt) (lit< tt) (lit< tt) (lit< tt) (lit< tt) (lit< tt) (lit< tt) (lit< tt)
    (phase t) (phase_below t)

phase_again : (t : ℕ) → phase (suc (suc (suc (suc (suc (suc (suc (suc t)))))))) ≡ phase t
unfolding phase
phase_again t = below_8
    (λ p. after_phase (after_phase (after_phase (after_phase (after_phase (after_phase (after_phase (after_phase p))))))) ≡ p)
    refl refl refl refl refl refl refl refl (phase t) (phase_below t)

-- where the hall is after the sixth tick and t more
hall_is : (t : ℕ) → hall (6 + t) ≡ at_phase (phase t) (suc t)
unfolding phase
hall_is zero = first_six.5
hall_is (suc t) =
    let n : ℕ = 6 + t in
    let e : 6 + suc t ≡ suc n = omega arith in
    ap hall e ∙ one_on n (at_phase (phase t) (suc t))
    (at_phase (after_phase (phase t)) (suc (suc t))) (hall_is t)
    (later n (at_phase (phase t) (suc t)) (omega arith) ∙ turns_on (suc t) (phase t) (phase_below t))

-- what holds of each state holds of the hall from the sixth tick on
from_six : (P : Turn → Type 0) → ((u p : ℕ) → p < 8 → P (at_phase p u)) → (t : ℕ) → P (hall (6 + t))
from_six P h t = subst P (sym (hall_is t)) (h (suc t) (phase t) (phase_below t))

abbrev Other : ℕ → Type 0
Other w = (w ≡ 1) ⊎ (w ≡ 2)

others : (t : ℕ) → Other (hall (suc t)).whose
others zero = inr (ap (λ s. s.whose) first_six.0)
others (suc zero) = inr (ap (λ s. s.whose) first_six.1)
others (suc (suc zero)) = inl (ap (λ s. s.whose) first_six.2)
others (suc (suc (suc zero))) = inr (ap (λ s. s.whose) first_six.3)
others (suc (suc (suc (suc zero)))) = inr (ap (λ s. s.whose) first_six.4)
others (suc (suc (suc (suc (suc t))))) =
    let e : 6 + t ≡ suc (suc (suc (suc (suc (suc t))))) = omega arith in
    subst (λ n. Other (hall n).whose) e (from_six (λ s. Other s.whose)
    (λ u. below_8 (λ p. Other (at_phase p u).whose) (inl refl) (inl refl) (inr refl) (inl refl) (inr refl) (inl refl) (inr refl)
    (inr refl)) t)

good : (i : ℕ) → i < 3 → route_ok corner i (corner.bay i) (way i) ≡ true
unfolding all_open
good zero l = refl
good (suc zero) l = refl
good (suc (suc zero)) l = refl
good (suc (suc (suc i))) l = absurd (omega arith)

due_now : (i : ℕ) → i < 3 → is_due (1 ∷ 1 ∷ 1 ∷ []) i ≡ true
unfolding is_due
due_now zero l = refl
due_now (suc zero) l = refl
due_now (suc (suc zero)) l = refl
due_now (suc (suc (suc i))) l = absurd (omega arith)

again_same : (t : ℕ) → (hall (6 + (t + 8))).fleet ≡ (hall (6 + t)).fleet
again_same t =
    let e : t + 8 ≡ suc (suc (suc (suc (suc (suc (suc (suc t))))))) = omega arith in
    ap (λ s. s.fleet) (hall_is (t + 8)) ∙ ap (λ p. (at_phase p (suc (t + 8))).fleet) (ap phase e ∙ phase_again t)
    ∙ below_8 (λ p. (at_phase p (suc (t + 8))).fleet ≡ (at_phase p (suc t)).fleet) refl refl refl refl refl refl refl refl (phase t)
    (phase_below t)
    ∙ ap (λ s. s.fleet) (sym (hall_is t))

pub starves : Starves
unfolding all_open phase
starves = record {
  field_sound = refl;
  within = λ t i l _ _. (0, lit< tt, due_now i l);
  ways_good = good;
  others_go = others;
  stands = from_six (λ s. ((s.fleet 0).at ≡ 3) × ((s.fleet 0).moving ≡ false) × ((s.fleet 0).route ≡ way 0))
      (λ u. below_8 (λ p. (((at_phase p u).fleet 0).at ≡ 3) × (((at_phase p u).fleet 0).moving ≡ false) × (((at_phase p u).fleet 0).route ≡ way 0))
      (refl, refl, refl) (refl, refl, refl) (refl, refl, refl) (refl, refl, refl) (refl, refl, refl) (refl, refl, refl) (refl, refl, refl)
      (refl, refl, refl));
  longer = λ t. ap (λ s. get_or s.waits 0 0) (hall_is t)
      ∙ below_8 (λ p. get_or (at_phase p (suc t)).waits 0 0 ≡ suc t) refl refl refl refl refl refl refl refl (phase t) (phase_below t);
  repeats = again_same;
  b_home = ap (λ s. s.fleet 1) (hall_is 4);
  c_home = ap (λ s. s.fleet 2) first_six.5;
}
