-- What a tick leaves and answers, from what its parts leave; and its refusals.
use Rattle.std.proofs.Common.{Some, None, Option, ◌≡◌, ℕ, suc, ◌+◌, ◌*◌, ◌<◌, true, false, ◌⊎◌, List, length, set, sym, refl, ap, ◌∙◌, subst, inl, inr, ⊎_elim, arith, lit≤}
use Rattle.std.proofs.lemmas.List.{set_past}
use Rattle.std.proofs.lemmas.Bool.{cond-true, cond-false, eq-eqb, ne_eqb}
use Rattle.std.proofs.lemmas.Bool.Decides.{nat_tests}
use Rattle.rules.specs.Tests.{is_empty}
use Rattle.rules.specs.Shuttle.{stepped}
use Rattle.rules.specs.Event.{step, grants, does, who, becomes, happens}
use Rattle.rules.specs.Memory.{FieldNumbers, field_in, field_ok, memory_ok, event_in, shuttle_in, stored}
use Rattle.calls.proofs.Keep.{keeps_promises}
use Rattle.turns.specs.Tick.{all_come, counted, chosen, granted_to, choose, tick}
use Rattle.turns.proofs.Ticks.{counted_length, none_granted}
use Rattle.field.specs.declared.refusal.Refusal.{Refusal}
use Rattle.field.specs.declared.refusal.Refusal.TheVariants.{Field, Memory, Event, Text, Way, Tick}
use Rattle.field.specs.Refusals.{number_of}
use Rattle.field.specs.Model.{numbers_in, field_of}
use Rattle.memory.specs.declared.hall.Hall.{Hall}
use Rattle.memory.specs.Halls.{Writes}
use Rattle.tick.specs.Answer.{number_for, whose_of}
use Rattle.tick.specs.Tick.{can_count, turns_ok, tick_refusal, called, come_in, Arrived, CalledRow, ComesTo, TickSays, Answered}
use Rattle.tick.specs.Coming.{CameIn}
use Rattle.tick.proofs.Choice.{Chosen, Nobody, chosen_tells, nobody_tells}
use Rattle.tick.proofs.Coming.{called_is, called_not, called_holds, all_accepted, all_come_in}
use Rattle.tick.proofs.Rows.{driven_reached, row_driven, call_done, call_says, come_arrived}

-- waits and marks that are accepted
pub record TurnsParts (n : ℕ) (vs marks : List ℕ) : Type 0 where
  pub waits_long : length vs ≡ n
  pub marks_long : length marks ≡ n
  pub small : can_count vs ≡ true

pub turns_parts : (n : ℕ) (vs marks : List ℕ) → turns_ok n vs marks ≡ true → TurnsParts n vs marks
unfolding turns_ok
turns_parts n vs marks h =
    record { waits_long = grind (arith, nat_tests); marks_long = grind (arith, nat_tests); small = grind (arith, nat_tests) }

-- a tick that is turned away
pub answered_refused : (lent : FieldNumbers) (m vs marks : List ℕ) (e : Refusal) → number_of e ≡ tick_refusal lent m vs marks
    → Answered lent m vs marks (16 + number_of e) m vs
unfolding TickSays
answered_refused lent m vs marks e is =
    record {
      says = let (k, some) = some_number e in
          subst (λ q. TickSays q lent m vs marks (16 + number_of e) m vs) (sym some ∙ is) (ap (λ k. 16 + k) some, refl, refl);
      stays = λ r. (r, keeps_promises lent m r);
    }
  where
    some_number : (e : Refusal) → (k : ℕ) × (number_of e ≡ suc k)
    some_number Field = (0, refl)
    some_number Memory = (1, refl)
    some_number Event = (2, refl)
    some_number (Text line) = (3, refl)
    some_number Way = (4, refl)
    some_number Tick = (5, refl)

-- what a tick comes to, where the waits were counted and one was chosen
module _ (lent : FieldNumbers) (m vs marks : List ℕ) (field : field_ok lent ≡ true) (ok : memory_ok lent m ≡ true)
    (mid us : List ℕ) (mid_is : mid ≡ come_in (field_in lent) m marks (length lent.bays))
    (us_is : us ≡ counted (field_in lent) (shuttle_in mid) vs) where
  abbrev w : ℕ
  w = chosen (field_in lent) (shuttle_in mid) us

  mid_ok : memory_ok lent mid ≡ true
  mid_ok = subst (λ x. memory_ok lent x ≡ true) (sym mid_is) (all_accepted lent m marks ok)

  mid_come : shuttle_in mid ≡ all_come (field_in lent) (shuttle_in m) marks
  mid_come = ap shuttle_in mid_is ∙ all_come_in lent m marks ok

  us_counted : us ≡ counted (field_in lent) (all_come (field_in lent) (shuttle_in m) marks) vs
  us_counted = us_is ∙ ap (λ g. counted (field_in lent) g vs) mid_come

  whose_is : w ≡ (tick (field_in lent) (shuttle_in m) vs marks).whose
  unfolding tick choose granted_to
  whose_is = ap (λ g. chosen (field_in lent) g us) mid_come
      ∙ ap (chosen (field_in lent) (all_come (field_in lent) (shuttle_in m) marks)) us_counted

  abbrev Then : Type 0
  Then = ((w < length lent.bays) × (grants (field_in lent) (shuttle_in mid) w ≡ true))
      ⊎ ((w ≡ length lent.bays) × ((i : ℕ) → i < length lent.bays → grants (field_in lent) (shuttle_in mid) i ≡ false))

  called_row : Then → CalledRow lent marks m w (called (field_in lent) mid (step w))
  unfolding event_in does field_in
  called_row then =
      let f = field_in lent in
      record {
        between = mid;
        arrivals = subst (Arrived lent marks m) (sym mid_is) (come_arrived lent field marks m ok (length lent.bays) (omega arith));
        then = ⊎_elim
            (λ h. inl (h.0, call_done lent field mid 1 w mid_ok (lit≤ tt) h.0 h.1, call_says lent field mid (step w) h.1))
            (λ h. inr (h.0, h.1, called_not lent mid (step w) (nobody h.0)))
            then;
      }
    where
      nobody : w ≡ length lent.bays → does (field_in lent) (shuttle_in mid) (step w) ≡ false
      nobody e = none_granted (field_in lent) (shuttle_in mid) w (omega arith)

  -- one that is made
  answered : Then → (n : ℕ) (m₁ vs₁ : List ℕ) → tick_refusal lent m vs marks ≡ 0 → n ≡ number_for (length lent.bays) w
      → m₁ ≡ called (field_in lent) mid (step w) → vs₁ ≡ set us w 0 → Answered lent m vs marks n m₁ vs₁
  unfolding tick choose granted_to TickSays
  answered then n m₁ vs₁ none n_is m₁_is vs₁_is =
      let f = field_in lent in
      let t = tick f (shuttle_in m) vs marks in
      let row : CalledRow lent marks m t.whose m₁ =
      subst (λ i. CalledRow lent marks m i m₁) whose_is (subst (CalledRow lent marks m w) (sym m₁_is) (called_row then)) in
      let comes_to : ComesTo t lent marks m n m₁ vs₁ = record {
        answer = n_is ∙ ap (number_for (length lent.bays)) whose_is;
        shuttles = λ j.
            ap (λ x. shuttle_in x j) m₁_is ∙ (called_holds lent mid (step w) mid_ok).1 j
            ∙ ap (λ g. happens f g (step w) j) mid_come ∙ ap (λ i. happens f (all_come f (shuttle_in m) marks) (step i) j) whose_is;
        counts = vs₁_is ∙ ap (λ us. set us w 0) us_counted ∙ ap (λ i. set (counted f (all_come f (shuttle_in m) marks) vs) i 0) whose_is;
        left = m₁_is ∙ ap (λ x. called f x (step w)) mid_is ∙ ap (λ i. called f (come_in f m marks (length lent.bays)) (step i)) whose_is;
        row = row;
      } in
      record {
        says = subst (λ q. TickSays q lent m vs marks n m₁ vs₁) (sym none) comes_to;
        stays = λ r. let q = driven_reached lent m m₁ (row_driven lent marks m _ m₁ row) r in (q, keeps_promises lent m₁ q);
      }

  -- where nobody is chosen, nothing more changes
  answered_nobody : tick_refusal lent m vs marks ≡ 0 → length vs ≡ length lent.bays → Nobody (field_in lent) (shuttle_in mid) us
      → Answered lent m vs marks 1 mid us
  unfolding number_for does field_in counted
  answered_nobody none long e =
      let same = ap length us_is ∙ counted_length _ vs (length lent.bays) in
      answered (inr (e.is, e.none)) 1 mid us none (sym (cond-true _ 1 (256 * w) (eq-eqb w (length lent.bays) e.is)))
      (sym (called_not lent mid (step w) (none_granted (field_in lent) (shuttle_in mid) w (omega (arith, e.is)))))
      (sym (set_past us w 0 (omega (arith, e.is))))

  -- else the step is written and its wait is 0
  answered_granted : tick_refusal lent m vs marks ≡ 0 → (i : ℕ) → Chosen (field_in lent) (shuttle_in mid) us i
      → Answered lent m vs marks (256 * i) (stored mid i (stepped (shuttle_in mid i))) (set us i 0)
  unfolding number_for does who becomes field_in
  answered_granted none i e =
      let below : w < length lent.bays = omega (arith, e.is, e.below) in
      let granted : grants (field_in lent) (shuttle_in mid) w ≡ true = subst (λ j. grants (field_in lent) (shuttle_in mid) j ≡ true) (sym e.is) e.granted in
      answered (inl (below, granted)) (256 * i) _ _ none
      (ap (λ j. 256 * j) (sym e.is) ∙ sym (cond-false _ 1 (256 * w) (ne_eqb w (length lent.bays) (omega arith))))
      (ap (λ j. stored mid j (stepped (shuttle_in mid j))) (sym e.is) ∙ sym (called_is lent mid (step w) granted))
      (ap (λ j. set us j 0) (sym e.is))

-- what is asked is right, where the call is not turned away
pub record Right (lent : FieldNumbers) (m vs marks : List ℕ) : Type 0 where
  pub field : field_ok lent ≡ true
  pub memory : memory_ok lent m ≡ true
  pub waits_long : length vs ≡ length lent.bays

pub right : (lent : FieldNumbers) (m vs marks : List ℕ) → tick_refusal lent m vs marks ≡ 0 → Right lent m vs marks
unfolding tick_refusal turns_ok
right lent m vs marks e =
    record { field = grind (arith, nat_tests); memory = grind (arith, nat_tests); waits_long = grind (arith, nat_tests) }

-- the call itself: h is the hall after the arrivals, us are the waits as counted
module _ (h : Hall) (us : List ℕ) (whose : Option ℕ)
    (whose_is : whose ≡ whose_of (length h.field.bays.now) (chosen (field_of h.field) (shuttle_in h.memory.now) us)) where
  chosen_one : (i : ℕ) → whose ≡ Some i → Chosen (field_of h.field) (shuttle_in h.memory.now) us i
  unfolding field_in
  chosen_one i is = chosen_tells _ _ _ i (sym whose_is ∙ is)

  -- the step of one that is chosen can be written
  pub chosen_below : (i : ℕ) → whose ≡ Some i → i < length h.field.bays.now
  unfolding field_in
  chosen_below i is = (chosen_one i is).below

  pub chosen_some : (i : ℕ) → whose ≡ Some i → is_empty (shuttle_in h.memory.now i).route ≡ false
  chosen_some i is = (chosen_one i is).some_left

  module _ (was : Hall) (vs marks : List ℕ) (came : CameIn was h marks (length was.field.bays.now))
      (counts : us ≡ counted (field_of h.field) (shuttle_in h.memory.now) vs) (lent : FieldNumbers) (same : numbers_in was.field ≡ lent)
      (none : tick_refusal lent was.memory.now vs marks ≡ 0) (m₁ : List ℕ) where
    abbrev On : ℕ → List ℕ → FieldNumbers → Type 0
    On n vs₁ l = tick_refusal l was.memory.now vs marks ≡ 0 → h.memory.now ≡ come_in (field_in l) was.memory.now marks (length l.bays)
        → Answered l was.memory.now vs marks n m₁ vs₁

    field_is : numbers_in h.field ≡ lent
    field_is = ap numbers_in came.same_field ∙ same

    come_is : h.memory.now ≡ come_in (field_in lent) was.memory.now marks (length lent.bays)
    come_is = came.come ∙ ap (λ l. come_in (field_in l) was.memory.now marks (length l.bays)) same

    pub made_nobody : whose ≡ None → m₁ ≡ h.memory.now → Answered lent was.memory.now vs marks 1 m₁ us
    unfolding field_in
    made_nobody is left =
        let nobody = nobody_tells _ _ us (sym whose_is ∙ is) in
        subst (On 1 us) field_is (λ none come. let r = right _ _ _ _ none in
        subst (λ x. Answered (numbers_in h.field) was.memory.now vs marks 1 x us) (sym left)
        (answered_nobody (numbers_in h.field) was.memory.now vs marks r.field r.memory _ us come counts none r.waits_long nobody)) none come_is

    pub made_granted : (i : ℕ) → whose ≡ Some i → (new : Hall) → Writes h new i (stepped (shuttle_in h.memory.now i)) → m₁ ≡ new.memory.now
        → Answered lent was.memory.now vs marks (256 * i) m₁ (set us i 0)
    made_granted i is new writes left =
        subst (On (256 * i) (set us i 0)) field_is (λ none come. let r = right _ _ _ _ none in
        subst (λ x. Answered (numbers_in h.field) was.memory.now vs marks (256 * i) x (set us i 0)) (sym (left ∙ writes.written))
        (answered_granted (numbers_in h.field) was.memory.now vs marks r.field r.memory _ us come counts none i (chosen_one i is))) none come_is
