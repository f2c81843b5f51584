-- Events in memory that is accepted, and what calls have led to there.
use Rattle.std.proofs.Common.{◌≡◌, ℕ, ◌≤◌, Bool, true, false, cond, List, length, Result, Ok, Err, sym, refl, inl, inr, arith}
use Rattle.std.proofs.lemmas.Bool.Decides.{nat_tests}
use mathlib.Core.Logic.{∥∥₁_map}
use Rattle.rules.specs.Event.{Event, order, step, arrive, does, who, becomes}
use Rattle.rules.specs.Memory.{FieldNumbers, field_in, field_ok, memory_ok, event_ok, event_in, shuttle_in, stored, refusal}
use Rattle.calls.specs.Call.{Says, Reached, kind_of, route_of}
use Rattle.calls.proofs.Answered.{answered}
use Rattle.calls.proofs.Refusal.{none_refusal}
use Rattle.field.specs.declared.refusal.Refusal.{Refusal}
use Rattle.field.specs.declared.refusal.Refusal.TheVariants as refusal
use Rattle.field.specs.Model.{numbers_in}
use Rattle.memory.specs.declared.hall.Hall.{Hall}
use Rattle.hall.specs.Answer.{done_of, number}
use Rattle.hall.specs.Call.{accepts, Called}
use Rattle.hall.proofs.Called.{refused_event}
use Rattle.text.specs.declared.answers.Answer.{Answer}
use Rattle.session.specs.Played.{numbers_of, memory_of, TakenBy, Taken, answer_number, Came}
use Rattle.session.specs.declared.state.Session.{Session}
use Rattle.session.proofs.Led.{led_field, led_memory}

-- an event is the one of its kind, shuttle and route
itself : (e : Event) → event_in (kind_of e) (who e) (route_of e) ≡ e
unfolding event_in kind_of who route_of
itself (order i r) = refl
itself (step i) = refl
itself (arrive i) = refl

-- an event in memory that is accepted is turned away for its own sake alone
refused : (lent : FieldNumbers) (m : List ℕ) → field_ok lent ≡ true → memory_ok lent m ≡ true → (kind i : ℕ) (r : List ℕ) (b : Bool)
    → event_ok (length lent.bays) kind i r ≡ b → refusal lent m kind i r ≡ cond b 0 3
refused lent m ok kept kind i r true is = none_refusal lent m kind i r ok kept is
refused lent m ok kept kind i r false is = refused_event lent m kind i r ok kept is

module _ (lent : FieldNumbers) (m : List ℕ) (ok : field_ok lent ≡ true) (kept : memory_ok lent m ≡ true) (e : Event) where
  stays : (n : ℕ) (left : List ℕ) → TakenBy lent m e n left → Reached lent m → Reached lent left
  stays n left says led =
      let by = refused lent m ok kept (kind_of e) (who e) (route_of e) (accepts (length lent.bays) e) refl in
      let here : Says (refusal lent m (kind_of e) (who e) (route_of e)) (field_in lent) m (event_in (kind_of e) (who e) (route_of e)) n left =
      rw (by, itself e) says in
      ((answered lent m (kind_of e) (who e) (route_of e) n left here).stays led).0

  taken_done : (done : Bool) (left : List ℕ) → accepts (length lent.bays) e ≡ true → done ≡ does (field_in lent) (shuttle_in m) e
      → left ≡ cond done (stored m (who e) (becomes e (shuttle_in m (who e)))) m → Taken lent m e (Ok done) left
  unfolding Says number
  taken_done true left is does now =
      let says : TakenBy lent m e 0 left = rw is (inl (refl, sym does, now)) in record { says = says; stays = stays 0 left says }
  taken_done false left is does now =
      let says : TakenBy lent m e 1 left = rw is (inr (refl, sym does, now)) in record { says = says; stays = stays 1 left says }

  taken_none : (r : Refusal) (left : List ℕ) → accepts (length lent.bays) e ≡ false → r ≡ refusal.Event → left ≡ m → Taken lent m e (Err r) left
  unfolding Says number
  taken_none r left is turned now =
      let says : TakenBy lent m e (number (done_of (Err r))) left = rw (is, turned) (refl, now) in record { says = says; stays = stays _ left says }

-- what a call in a hall answers and leaves
pub taken : (was now : Hall) (e : Event) (r : Result Bool Refusal) → Called was now e r
    → Taken (numbers_in was.field) was.memory.now e r now.memory.now
taken was now e (Ok done) c =
    taken_done (numbers_in was.field) was.memory.now was.field.accepted was.accepted e done now.memory.now c.0 c.1.does c.1.left
taken was now e (Err r) c = taken_none (numbers_in was.field) was.memory.now was.field.accepted was.accepted e r now.memory.now c.0 c.1 c.2

-- the same of a hall that is played, at the numbers that were lent
module _ (s : Session) (lent : FieldNumbers) (m left : List ℕ) (same : lent ≡ numbers_of s) (was : m ≡ memory_of s) (e : Event) (r : Result Bool Refusal)
    (taken : Taken lent m e r left) where
  pub led_on : ∥ Reached (numbers_of s) left ∥₁
  led_on = let on : Reached (numbers_of s) (memory_of s) → Reached (numbers_of s) left = rw (same, was) at taken.stays in ∥∥₁_map s.reached on

  says_on : TakenBy (numbers_of s) (memory_of s) e (number (done_of r)) left
  says_on = rw (same, was) at taken.says

  pub came_on : (t : Session) (a : Result Answer Refusal) → numbers_of t ≡ numbers_of s → left ≡ memory_of t → number (done_of r) ≡ answer_number a → Came s t e a
  came_on t a stays is answer = record { same = stays; says = rw (is, answer) at says_on }

-- of memory that calls have led to, whatever the numbers of the event are: what is turned away is turned away by 3
pub says_led : (lent : FieldNumbers) (m : List ℕ) (kind i : ℕ) (route : List ℕ) (answer : ℕ) (left : List ℕ) → ∥ Reached lent m ∥₁
    → Says (refusal lent m kind i route) (field_in lent) m (event_in kind i route) answer left
    → Says (cond (event_ok (length lent.bays) kind i route) 0 3) (field_in lent) m (event_in kind i route) answer left
says_led lent m kind i route answer left led says =
    rw (refused lent m (led_field led) (led_memory led) kind i route (event_ok (length lent.bays) kind i route) refl) at says

-- the numbers of answers
pub number_granted : (done : Bool) → done ≡ true → number (done_of (Ok done)) ≡ 0
unfolding number
number_granted done is = rw is refl

pub number_not : (done : Bool) → done ≡ false → number (done_of (Ok done)) ≡ 1
unfolding number
number_not done is = rw is refl

pub number_refused : (r : Refusal) → number (done_of (Err r)) ≡ answer_number (Err r)
unfolding number
number_refused r = refl

-- an order of a shuttle that isn't there is turned away
pub came_none : (s : Session) (i : ℕ) (r : List ℕ) → length (numbers_of s).bays ≤ i → Came s s (order i r) (Err refusal.Event)
unfolding Says event_ok who kind_of route_of
came_none s i r past =
    let none : accepts (length (numbers_of s).bays) (order i r) ≡ false = grind (arith, nat_tests) in
    record { same = refl; says = rw none (refl, refl) }
