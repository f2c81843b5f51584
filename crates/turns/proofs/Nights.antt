-- Nights: orders and ticks from one choice to the next, and so that nobody starves and each comes home.
use Rattle.std.proofs.Common.{◌≡◌, ℕ, zero, suc, ◌+◌, ◌*◌, ◌<◌, ◌≤◌, true, false, cond, ◌&&◌, eqb, ◌⊎◌, List, ◌∷◌, length, get_or, set, sym, refl, ap, ◌∙◌, subst, inl, inr, ⊎_elim, arith}
use Rattle.std.proofs.lemmas.Bool.{both_ways, cases_Bool, cases_eq, cond-true, cond-false, eq-eqb, ne_eqb}
use Rattle.std.proofs.lemmas.List.{length-set, get_or-set_same, get_or-set_other}
use Rattle.std.proofs.lemmas.Bool.Decides.{nat_tests}
use Rattle.rules.specs.Tests.{is_empty}
use Rattle.rules.specs.Field.{Field}
use Rattle.rules.specs.Shuttle.{Fleet, put, at_home, ordered, stepped, arrived}
use Rattle.rules.specs.Event.{order, step, takes, grants, does, who, becomes, happens, after}
use Rattle.agents.specs.Kinds.{put as with_agent}
use Rattle.agents.proofs.Fleets.{put_here}
use Rattle.rules.proofs.Tests.{empty_tells}
use Rattle.promise.proofs.Places.{steps, idle_home}
use Rattle.promise.proofs.Events.{takes_tells, grants_tells, Good, good_after}
use Rattle.promise.proofs.GoingOn.{done, not_done}
use Rattle.promise.proofs.Home.{same_shuttle}
use Rattle.turns.specs.Tick.{is_due, all_come, waits, one_more, counted, chosen, Turn, granted_to, choose, tick}
use Rattle.turns.specs.Night.{give, give_to, all_given, next, night, NightsAreRows}
use Rattle.turns.specs.Parts.{AtMostTwo}
use Rattle.turns.specs.Waiting.{AnyNight, most_ticks, NobodyStarves, EachComesHome}
use Rattle.turns.proofs.Ticks.{due_come, counted_length, counts_all, Best, choice}
use Rattle.turns.proofs.Bounds.{due_soon}
use Rattle.turns.proofs.Home.{others_stay, all_come_moves, Reached, come_reached}
use Rattle.turns.proofs.Parts.{PlacedOwn, placed_own}
use Rattle.turns.proofs.Choices.{Choices, waits_tells}
use Rattle.turns.proofs.Serving.{gets_step}
use Rattle.turns.proofs.ComingHome.{done as comes_done}

-- an order is taken by one that stands with nothing left, and changes nothing else
order_makes : (f : Field) (g : Fleet) (i : ℕ) (r : List ℕ) (j : ℕ) →
    ((j ≡ i) × ((g j).moving ≡ false) × (is_empty (g j).route ≡ true) × (happens f g (order i r) j ≡ ordered (g j) r)) ⊎
    (happens f g (order i r) j ≡ g j)
unfolding does who becomes put with_agent
order_makes f g i r j = ⊎_elim
    (λ (e : takes f g i r ≡ true). ⊎_elim
    (λ (q : j ≡ i).
    let t = takes_tells f g i r e in
    inl (
      q,
      ap (λ x. (g x).moving) q ∙ t.stands,
      ap (λ x. is_empty (g x).route) q ∙ t.nothing_left,
      ap (λ x. x j) (done f g (order i r) e) ∙ ap (put g i (ordered (g i) r)) q ∙ put_here g i (ordered (g i) r) ∙ ap
          (λ x. ordered (g x) r) (sym q),
    ))
    (λ ne. inr (others_stay f g (order i r) j ne)) (cases_eq j i))
    (λ (e : takes f g i r ≡ false). inr (ap (λ x. x j) (not_done f g (order i r) e)))
    (cases_Bool (takes f g i r))

-- what the orders make of each
abbrev Given : Fleet → (ℕ → List ℕ) → Fleet → ℕ → Type 0
Given g routes g' j =
    (((g j).moving ≡ false) × (is_empty (g j).route ≡ true) × (g' j ≡ ordered (g j) (routes j))) ⊎ (g' j ≡ g j)

gives : (f : Field) (g : Fleet) (routes : ℕ → List ℕ) (k j : ℕ) →
    ((j < k) × ((g j).moving ≡ false) × (is_empty (g j).route ≡ true) × (give_to f g routes k j ≡ ordered (g j) (routes j))) ⊎
    (give_to f g routes k j ≡ g j)
unfolding give_to give
gives f g routes zero j = inr refl
gives f g routes (suc k) j =
    let g' = give_to f g routes k in
    let before : ((j < k) × ((g j).moving ≡ false) × (is_empty (g j).route ≡ true) × (g' j ≡ ordered (g j) (routes j))) ⊎ (g' j ≡ g j) =
    gives f g routes k j in
    ⊎_elim
    (λ (e : is_empty (routes k) ≡ true).
    let z : give_to f g routes (suc k) ≡ g' = cond-true _ g' (happens f g' (order k (routes k))) e in
    ⊎_elim
    (λ (b : (j < k) × ((g j).moving ≡ false) × (is_empty (g j).route ≡ true) × (g' j ≡ ordered (g j) (routes j))).
    inl (omega arith, b.1, b.2, ap (λ x. x j) z ∙ b.3))
    (λ (b : g' j ≡ g j). inr (ap (λ x. x j) z ∙ b))
    before)
    (λ (e : is_empty (routes k) ≡ false).
    let z : give_to f g routes (suc k) ≡ happens f g' (order k (routes k)) = cond-false _ g' (happens f g' (order k (routes k))) e in
    ⊎_elim
    (λ (o : (j ≡ k) × ((g' j).moving ≡ false) × (is_empty (g' j).route ≡ true) ×
    (happens f g' (order k (routes k)) j ≡ ordered (g' j) (routes k))).
    let q = o.0 in
    ⊎_elim
    (λ (b : (j < k) × ((g j).moving ≡ false) × (is_empty (g j).route ≡ true) × (g' j ≡ ordered (g j) (routes j))). absurd (omega arith))
    (λ (b : g' j ≡ g j). inl (
      omega arith,
      ap (λ x. x.moving) (sym b) ∙ o.1,
      ap (λ x. is_empty x.route) (sym b) ∙ o.2,
      ap (λ x. x j) z ∙ o.3 ∙ ap (λ x. ordered x (routes k)) b ∙ ap (λ x. ordered (g j) (routes x)) (sym q),
    ))
    before)
    (λ (o : happens f g' (order k (routes k)) j ≡ g' j). ⊎_elim
    (λ (b : (j < k) × ((g j).moving ≡ false) × (is_empty (g j).route ≡ true) × (g' j ≡ ordered (g j) (routes j))).
    inl (omega arith, b.1, b.2, ap (λ x. x j) z ∙ o ∙ b.3))
    (λ (b : g' j ≡ g j). inr (ap (λ x. x j) z ∙ o ∙ b))
    before)
    (order_makes f g' k (routes k) j))
    (cases_Bool (is_empty (routes k)))

given : (f : Field) (g : Fleet) (routes : ℕ → List ℕ) (j : ℕ) → Given g routes (all_given f g routes) j
unfolding all_given
given f g routes j = ⊎_elim
    (λ (b : (j < f.shuttles) × ((g j).moving ≡ false) × (is_empty (g j).route ≡ true) ×
    (give_to f g routes f.shuttles j ≡ ordered (g j) (routes j))).
    inl (b.1, b.2, b.3)) inr (gives f g routes f.shuttles j)

give_reached : (f : Field) (g : Fleet) (routes : ℕ → List ℕ) (k : ℕ) → Reached f g → Reached f (give_to f g routes k)
unfolding give_to give after
give_reached f g routes zero r = r
give_reached f g routes (suc k) r =
    let (rs, e) = give_reached f g routes k r in
    let g' = give_to f g routes k in
    ⊎_elim (λ z. (rs, cond-true _ g' (happens f g' (order k (routes k))) z ∙ e))
    (λ z. (order k (routes k) ∷ rs, cond-false _ g' (happens f g' (order k (routes k))) z ∙ ap (λ x. happens f x (order k (routes k))) e))
    (cases_Bool (is_empty (routes k)))

-- a night is a row of events, so that all that is promised of rows holds of it
next_reached : (f : Field) (s : Turn) (routes : ℕ → List ℕ) (marks : List ℕ) → Reached f s.fleet → Reached f (next f s routes marks).fleet
unfolding next tick choose granted_to all_given after
next_reached f s routes marks r =
    let (rs, e) = come_reached f (all_given f s.fleet routes) marks (give_reached f s.fleet routes f.shuttles r) in
    let w = (next f s routes marks).whose in (step w ∷ rs, ap (λ x. happens f x (step w)) e)

pub nights_are_rows : NightsAreRows
unfolding night
nights_are_rows f es s orders marks zero b = (es, b)
nights_are_rows f es s orders marks (suc t) b =
    next_reached f (night f s orders marks t) (orders t) (marks t) (nights_are_rows f es s orders marks t b)

-- one that moves or has something left takes no order, and one that stands takes no arrival
same_given : (f : Field) (g : Fleet) (routes : ℕ → List ℕ) (j : ℕ) → ((g j).moving ≡ true) ⊎ (is_empty (g j).route ≡ false) →
    all_given f g routes j ≡ g j
same_given f g routes j o = ⊎_elim
    (λ (b : ((g j).moving ≡ false) × (is_empty (g j).route ≡ true) × (all_given f g routes j ≡ ordered (g j) (routes j))).
    absurd (⊎_elim (λ m. both_ways _ b.0 m) (λ e. both_ways _ e b.1) o)) (λ b. b) (given f g routes j)

same_come : (f : Field) (g : Fleet) (marks : List ℕ) (i : ℕ) → i < f.shuttles → (g i).moving ≡ false → all_come f g marks i ≡ g i
same_come f g marks i l m = ⊎_elim
    (λ (t : (is_due marks i ≡ true) × ((g i).moving ≡ true) × (all_come f g marks i ≡ arrived (g i))). absurd (both_ways _ m t.1))
    (λ (t : ((is_due marks i && (g i).moving) ≡ false) × (all_come f g marks i ≡ g i)). t.1)
    (due_come f g marks i l)

module _ (f : Field) (s : Turn) (orders : ℕ → ℕ → List ℕ) (marks : ℕ → List ℕ) (d : ℕ) (two : AtMostTwo f)
    (nn : AnyNight f s orders marks d) where
  abbrev now : ℕ → Turn
  now t = night f s orders marks t

  abbrev fleet_at : ℕ → Fleet
  fleet_at t = all_come f (all_given f (now t).fleet (orders t)) (marks t)

  abbrev waits_at : ℕ → List ℕ
  waits_at t = counted f (fleet_at t) (now t).waits

  abbrev whose : ℕ → ℕ
  whose t = (now (suc t)).whose

  -- the parts of the next turn
  is_whose : (t : ℕ) → whose t ≡ chosen f (fleet_at t) (waits_at t)
  unfolding night next tick choose granted_to
  is_whose t = refl

  is_fleet : (t : ℕ) → (now (suc t)).fleet ≡ happens f (fleet_at t) (step (whose t))
  unfolding night next tick choose granted_to
  is_fleet t = refl

  is_waits : (t : ℕ) → (now (suc t)).waits ≡ set (waits_at t) (whose t) 0
  unfolding night next tick choose granted_to
  is_waits t = refl

  long : (t : ℕ) → f.shuttles ≤ length (now t).waits
  unfolding night counted
  long zero = nn.enough
  long (suc t) =
      let e = ap length (is_waits t) ∙ length-set (waits_at t) (whose t) 0 ∙ counted_length (fleet_at t) (now t).waits f.shuttles in
      let q = long t in omega arith

  reached : (t : ℕ) → Reached f (fleet_at t)
  unfolding all_given
  reached t = come_reached f (all_given f (now t).fleet (orders t)) (marks t)
      (give_reached f (now t).fleet (orders t) f.shuttles (nights_are_rows f nn.es s orders marks t nn.begins))

  Chosen : ℕ → Type 0
  Chosen t = Best f (fleet_at t) (waits_at t) f.shuttles (whose t) ⊎
      ((whose t ≡ f.shuttles) × ((i : ℕ) → i < f.shuttles → grants f (fleet_at t) i ≡ false))

  the_choice : (t : ℕ) → Chosen t
  unfolding Chosen
  the_choice t = subst (λ x. Best f (fleet_at t) (waits_at t) f.shuttles x ⊎
      ((x ≡ f.shuttles) × ((i : ℕ) → i < f.shuttles → grants f (fleet_at t) i ≡ false))) (sym (is_whose t))
      (choice f (fleet_at t) (waits_at t))

  granted : (t : ℕ) → whose t < f.shuttles → grants f (fleet_at t) (whose t) ≡ true
  unfolding Chosen
  granted t l = ⊎_elim (λ (b : Best f (fleet_at t) (waits_at t) f.shuttles (whose t)). b.granted)
      (λ (b : (whose t ≡ f.shuttles) × ((i : ℕ) → i < f.shuttles → grants f (fleet_at t) i ≡ false)). let e = b.0 in absurd
      (omega arith)) (the_choice t)

  -- one that is not chosen is after the tick as it was at the choice
  kept : (t i : ℕ) → (whose t ≡ i → ⊥) → (now (suc t)).fleet i ≡ fleet_at t i
  unfolding who
  kept t i ne = ap (λ x. x i) (is_fleet t) ∙ others_stay f (fleet_at t) (step (whose t)) i (λ e. ne (sym e))

  -- the chosen one stands with something left
  not_chosen : (t i : ℕ) → i < f.shuttles → ((fleet_at t i).moving ≡ true) ⊎ (is_empty (fleet_at t i).route ≡ true) → whose t ≡ i → ⊥
  not_chosen t i l o e =
      let g = grants_tells f (fleet_at t) i (subst (λ x. grants f (fleet_at t) x ≡ true) e (granted t (omega arith))) in
      ⊎_elim (λ m. both_ways _ g.stands m) (λ m. both_ways _ g.something_left m) o

  moves_on : (t i : ℕ) → i < f.shuttles → ((now (suc t)).fleet i).moving ≡ true →
      (whose t ≡ i) ⊎ ((((now t).fleet i).moving ≡ true) × (is_due (marks t) i ≡ false))
  unfolding ordered
  moves_on t i l m = ⊎_elim inl
      (λ ne. let (a, b) = all_come_moves f (all_given f (now t).fleet (orders t)) (marks t) i l
      (ap (λ x. x.moving) (sym (kept t i ne)) ∙ m) in
      inr (
        ⊎_elim
            (λ (g : (((now t).fleet i).moving ≡ false) × (is_empty ((now t).fleet i).route ≡ true) ×
            (all_given f (now t).fleet (orders t) i ≡ ordered ((now t).fleet i) (orders t i))).
            absurd (both_ways _ (ap (λ x. x.moving) g.2) a))
            (λ g. ap (λ x. x.moving) (sym g) ∙ a)
            (given f (now t).fleet (orders t) i),
        b,
      ))
      (cases_eq (whose t) i)

  -- from after a tick to the next choice: one that moves or has something left takes no order, and comes if it moves and is due
  turned : (t i : ℕ) → i < f.shuttles → (((now t).fleet i).moving ≡ true) ⊎ (is_empty ((now t).fleet i).route ≡ false) →
      ((((now t).fleet i).moving ≡ true) × (fleet_at t i ≡ arrived ((now t).fleet i)))
      ⊎ (((is_due (marks t) i && ((now t).fleet i).moving) ≡ false) × (fleet_at t i ≡ (now t).fleet i))
  turned t i l o =
      let g = all_given f (now t).fleet (orders t) in
      let e : g i ≡ (now t).fleet i = same_given f (now t).fleet (orders t) i o in
      ⊎_elim
      (λ (b : (is_due (marks t) i ≡ true) × ((g i).moving ≡ true) × (fleet_at t i ≡ arrived (g i))).
      inl (ap (λ x. x.moving) (sym e) ∙ b.1, b.2 ∙ ap arrived e))
      (λ (b : ((is_due (marks t) i && (g i).moving) ≡ false) × (fleet_at t i ≡ g i)).
      inr (ap (λ x. is_due (marks t) i && x.moving) (sym e) ∙ b.0, b.1 ∙ e))
      (due_come f g (marks t) i l)

  stepping : (t : ℕ) → whose t < f.shuttles →
      (fleet_at (suc t) (whose t) ≡ stepped (fleet_at t (whose t))) ⊎ (fleet_at (suc t) (whose t) ≡ arrived (stepped (fleet_at t (whose t))))
  unfolding does who becomes put with_agent
  stepping t l =
      let i = whose t in
      let h = granted t l in
      let e : (now (suc t)).fleet i ≡ stepped (fleet_at t i) = ap (λ x. x i) (is_fleet t ∙ done f (fleet_at t) (step i) h)
      ∙ put_here (fleet_at t) i (stepped (fleet_at t i)) in
      let m = ap (λ x. x.moving) e ∙ (steps (fleet_at t i) (grants_tells f (fleet_at t) i h).something_left).moves in
      ⊎_elim
      (λ (b : (((now (suc t)).fleet i).moving ≡ true) × (fleet_at (suc t) i ≡ arrived ((now (suc t)).fleet i))). inr (b.1 ∙ ap arrived e))
      (λ (b : ((is_due (marks (suc t)) i && ((now (suc t)).fleet i).moving) ≡ false) × (fleet_at (suc t) i ≡ (now (suc t)).fleet i)). inl
      (b.1 ∙ e))
      (turned (suc t) i l (inl m))

  driving : (t i : ℕ) → i < f.shuttles → (fleet_at t i).moving ≡ true →
      ((fleet_at (suc t) i ≡ fleet_at t i) × (is_due (marks (suc t)) i ≡ false)) ⊎ (fleet_at (suc t) i ≡ arrived (fleet_at t i))
  driving t i l v =
      let e = kept t i (not_chosen t i l (inl v)) in
      let m = ap (λ x. x.moving) e ∙ v in
      ⊎_elim
      (λ (b : (((now (suc t)).fleet i).moving ≡ true) × (fleet_at (suc t) i ≡ arrived ((now (suc t)).fleet i))). inr (b.1 ∙ ap arrived e))
      (λ (b : ((is_due (marks (suc t)) i && ((now (suc t)).fleet i).moving) ≡ false) × (fleet_at (suc t) i ≡ (now (suc t)).fleet i)).
      let o = b.0 in inl (b.1 ∙ e, grind (arith, nat_tests)))
      (turned (suc t) i l (inl m))

  waiting : (t i : ℕ) → i < f.shuttles → (whose t ≡ i → ⊥) → (fleet_at t i).moving ≡ false → is_empty (fleet_at t i).route ≡ false →
      fleet_at (suc t) i ≡ fleet_at t i
  waiting t i l ne v u =
      let e = kept t i ne in
      ⊎_elim
      (λ (b : (((now (suc t)).fleet i).moving ≡ true) × (fleet_at (suc t) i ≡ arrived ((now (suc t)).fleet i))).
      absurd (both_ways _ (ap (λ x. x.moving) e ∙ v) b.0))
      (λ (b : ((is_due (marks (suc t)) i && ((now (suc t)).fleet i).moving) ≡ false) × (fleet_at (suc t) i ≡ (now (suc t)).fleet i)). b.1 ∙ e)
      (turned (suc t) i l (inr (ap (λ x. is_empty x.route) e ∙ u)))

  idling : (t i : ℕ) → i < f.shuttles → (fleet_at t i).moving ≡ false → is_empty (fleet_at t i).route ≡ true →
      ((fleet_at (suc t) i).at ≡ (fleet_at t i).at) × ((fleet_at (suc t) i).moving ≡ false)
  unfolding ordered
  idling t i l v u =
      let e = kept t i (not_chosen t i l (inr u)) in
      let g = all_given f (now (suc t)).fleet (orders (suc t)) in
      let (a, b) = still (now (suc t)).fleet g (orders (suc t)) (ap (λ x. x.moving) e ∙ v)
      (given f (now (suc t)).fleet (orders (suc t)) i) in
      let c = same_come f g (marks (suc t)) i l b in
      (ap (λ x. x.at) c ∙ a ∙ ap (λ x. x.at) e, ap (λ x. x.moving) c ∙ b)
    where
      still : (g g' : Fleet) (routes : ℕ → List ℕ) → (g i).moving ≡ false → Given g routes g' i → ((g' i).at ≡ (g i).at) × ((g' i).moving ≡ false)
      still g g' routes m o = ⊎_elim
          (λ (b : ((g i).moving ≡ false) × (is_empty (g i).route ≡ true) × (g' i ≡ ordered (g i) (routes i))).
          (ap (λ x. x.at) b.2, ap (λ x. x.moving) b.2))
          (λ b. (ap (λ x. x.at) b, ap (λ x. x.moving) b ∙ m)) o

  counting : (t i : ℕ) → i < f.shuttles →
      get_or (waits_at (suc t)) i 0 ≡ one_more (fleet_at (suc t) i) (cond (eqb i (whose t)) 0 (get_or (waits_at t) i 0))
  unfolding counted
  counting t i l =
      let q = long t in
      let e = counted_length (fleet_at t) (now t).waits f.shuttles in
      counts_all f (fleet_at (suc t)) (now (suc t)).waits i l (long (suc t))
      ∙ ap (one_more (fleet_at (suc t) i)) (ap (λ x. get_or x i 0) (is_waits t) ∙ ⊎_elim
      (λ (z : i ≡ whose t). ap (λ x. get_or (set (waits_at t) x 0) i 0) (sym z) ∙ get_or-set_same (waits_at t) i 0 0 (omega arith)
      ∙ sym (cond-true (eqb i (whose t)) 0 (get_or (waits_at t) i 0) (eq-eqb i (whose t) z)))
      (λ ne. get_or-set_other (waits_at t) (whose t) i 0 0 ne ∙ sym
      (cond-false (eqb i (whose t)) 0 (get_or (waits_at t) i 0) (ne_eqb i (whose t) ne)))
      (cases_eq i (whose t)))

  soon : (t i : ℕ) → i < f.shuttles → (fleet_at t i).moving ≡ true → (k : ℕ) × (k < d) × (is_due (marks (t + suc k)) i ≡ true)
  unfolding ordered
  soon t i l v =
      let (a, b) = all_come_moves f (all_given f (now t).fleet (orders t)) (marks t) i l v in
      let m : ((now t).fleet i).moving ≡ true = ⊎_elim
      (λ (g : (((now t).fleet i).moving ≡ false) × (is_empty ((now t).fleet i).route ≡ true) ×
      (all_given f (now t).fleet (orders t) i ≡ ordered ((now t).fleet i) (orders t i))).
      absurd (both_ways _ (ap (λ x. x.moving) g.2) a))
      (λ g. ap (λ x. x.moving) (sym g) ∙ a)
      (given f (now t).fleet (orders t) i) in
      after_now b (due_soon f.shuttles (λ t i. ((now t).fleet i).moving) (λ t i. is_due (marks t) i) whose d moves_on nn.within t i l m)
    where
      after_now : is_due (marks t) i ≡ false → (k : ℕ) × (k < d) × (is_due (marks (t + k)) i ≡ true) →
          (k : ℕ) × (k < d) × (is_due (marks (t + suc k)) i ≡ true)
      after_now b (zero, x, y) = let e : t + 0 ≡ t = omega arith in absurd (both_ways _ b (subst (λ u. is_due (marks u) i ≡ true) e y))
      after_now b (suc k, x, y) = (k, omega arith, y)

  the_choices : Choices f d fleet_at (λ t i. get_or (waits_at t) i 0) whose (λ t i. is_due (marks t) i)
  unfolding Chosen one_more
  the_choices = record {
    good = λ t. let (rs, e) = reached t in subst (Good f) (sym e) (good_after f nn.field_sound rs);
    own = λ t i l. let (rs, e) = reached t in subst (λ x. PlacedOwn f i (x i)) (sym e)
        (placed_own f nn.field_sound rs i l);
    longest = λ t i l g. ⊎_elim
        (λ (b : Best f (fleet_at t) (waits_at t) f.shuttles (whose t)). (b.below, let q = b.longest i l g in omega arith))
        (λ (b : (whose t ≡ f.shuttles) × ((i : ℕ) → i < f.shuttles → grants f (fleet_at t) i ≡ false)). absurd (both_ways _ (b.1 i l) g))
        (the_choice t);
    granted = granted;
    stepping = stepping;
    driving = driving;
    waiting = waiting;
    idling = idling;
    waited = λ t i l v. let e = counts_all f (fleet_at t) (now t).waits i l (long t) ∙ cond-true _
        (suc (get_or (now t).waits i 0)) 0 v in omega arith;
    not_waited = λ t i l v. counts_all f (fleet_at t) (now t).waits i l (long t) ∙ cond-false _ (suc (get_or (now t).waits i 0)) 0 v;
    counting = counting;
    soon = soon;
  }

  -- one that waits after a tick waits at the next choice
  same_there : (t i : ℕ) → i < f.shuttles → waits ((now t).fleet i) ≡ true → fleet_at t i ≡ (now t).fleet i
  same_there t i l v =
      let (m, u) = waits_tells ((now t).fleet i) v in
      let e = same_given f (now t).fleet (orders t) i (inr u) in
      same_come f (all_given f (now t).fleet (orders t)) (marks t) i l (ap (λ x. x.moving) e ∙ m) ∙ e

  served : (t i : ℕ) → i < f.shuttles → waits (fleet_at t i) ≡ true →
      (k : ℕ) × (k < most_ticks f d) × (fleet_at (t + k) i ≡ fleet_at t i) × (whose (t + k) ≡ i)
  unfolding most_ticks
  served = gets_step f nn.field_sound two d fleet_at (λ t i. get_or (waits_at t) i 0) whose (λ t i. is_due (marks t) i) the_choices

  home : (t i : ℕ) → i < f.shuttles → (k : ℕ) × (k ≤ 257 * (most_ticks f d + d)) × ((now (t + k)).fleet i ≡ at_home f i)
  unfolding most_ticks at_home
  home t i l =
      let short = (the_choices.own t i l).short in
      let (k, x, y, z) = comes_done f d fleet_at (λ t i. get_or (waits_at t) i 0) whose (λ t i. is_due (marks t) i)
      the_choices i l (most_ticks f d) (λ t v. served t i l v) 256 t short in
      let e = kept (t + k) i (not_chosen (t + k) i l (inr z)) in
      let p = (the_choices.good (t + k)).each i l in
      let at = idle_home p z in
      let j : suc (t + k) ≡ t + suc k = omega arith in (
        suc k,
        omega arith,
        subst (λ u. (now u).fleet i ≡ at_home f i) j
            (e ∙ same_shuttle (fleet_at (t + k) i) (at_home f i) at y (p.stands_on y ∙ at) (empty_tells _ z)),
      )

pub nobody_starves : NobodyStarves
nobody_starves f s orders marks d two nn t i l v =
    let e = same_there f s orders marks d two nn t i l v in
    let (k, x, y, z) = served f s orders marks d two nn t i l (ap waits e ∙ v) in (k, x, z)

pub each_comes_home : EachComesHome
each_comes_home f s orders marks d two nn t i l = home f s orders marks d two nn t i l
