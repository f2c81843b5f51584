-- What a call of the entry answers and leaves, memory that calls have led to, and what is promised of it.
use Rattle.std.specs.Prelude.{◌≡◌, ℕ, zero, suc, ◌+◌, ◌*◌, ◌<◌, ◌≤◌, Bool, true, false, ◌&&◌, ◌⊎◌, List, [], ◌∷◌, length, ◌≢◌, slice_index}
use Rattle.rules.specs.Tests.{is_empty}
use Rattle.rules.specs.Field.{Field}
use Rattle.rules.specs.Route.{route_ok}
use Rattle.rules.specs.Shuttle.{Shuttle, holds}
use Rattle.rules.specs.Safe.{Safe}
use Rattle.rules.specs.Event.{Event, order, step, arrive, does, who, becomes, happens, after}
use Rattle.promise.specs.Promise.{AllHome, Placed, sum_to, squares_left, events_left}
use Rattle.rules.specs.Memory.{FieldNumbers, field_in, field_ok, shuttle_in, memory_ok, event_ok, event_in, refusal, stored, started}

-- what a call with this refusal (0: none) answers, and the memory that it leaves; an answer is 0 if the event happened, 1 if it
-- did not, and 16 + k if the call is turned away by k
unfoldable pub Says : (refused : ℕ) → Field → (memory : List ℕ) → Event → (answer : ℕ) → (left : List ℕ) → Type 0
Says zero f m e n m₁ =
    ((n ≡ 0) × (does f (shuttle_in m) e ≡ true) × (m₁ ≡ stored m (who e) (becomes e (shuttle_in m (who e)))))
    ⊎ ((n ≡ 1) × (does f (shuttle_in m) e ≡ false) × (m₁ ≡ m))
Says (suc k) f m e n m₁ = (n ≡ 16 + suc k) × (m₁ ≡ m)

-- what writing a shuttle into memory does: that shuttle is read as written, and any other that has room for what is left of it
-- as it was; the length stays, and each place outside the numbers written
pub record Written (m : List ℕ) (i : ℕ) (s : Shuttle) : Type 0 where
  pub its_own : shuttle_in (stored m i s) i ≡ s
  pub others : (j : ℕ) → j ≢ i → slice_index m (260 * j + 3) ≤ 256 → shuttle_in (stored m i s) j ≡ shuttle_in m j
  pub same_length : length (stored m i s) ≡ length m
  pub rest : (p : ℕ) → (p < 260 * i) ⊎ (260 * i + (4 + length s.route) ≤ p) → slice_index (stored m i s) p ≡ slice_index m p

-- memory of n shuttles keeps apart what is written of each
abbrev pub StoredIsRead : Type 0
StoredIsRead = (m : List ℕ) (n i : ℕ) (s : Shuttle) → length m ≡ 260 * n → i < n → length s.route ≤ 256 → Written m i s

-- what a call leaves is accepted again, and each shuttle in it is what the event makes of it
abbrev pub StaysAccepted : Type 0
StaysAccepted =
    (lent : FieldNumbers) (m : List ℕ) (kind i : ℕ) (r : List ℕ) (n : ℕ) (m₁ : List ℕ) → refusal lent m kind i r ≡ 0
    → Says 0 (field_in lent) m (event_in kind i r) n m₁
    → (memory_ok lent m₁ ≡ true) × ((j : ℕ) → shuttle_in m₁ j ≡ happens (field_in lent) (shuttle_in m) (event_in kind i r) j)

-- memory to which a row of calls with one field has led from start memory, refused calls among them; the row of their events, latest first
pub data Played (lent : FieldNumbers) : List Event → List ℕ → Type 0 where
  begun : (m : List ℕ) → field_ok lent ≡ true → length m ≡ 260 * length lent.bays
      → Played lent [] (started (field_in lent) (length lent.bays) m)
  more : (es : List Event) (m m₁ : List ℕ) (kind i : ℕ) (r : List ℕ) (n : ℕ) → Played lent es m
      → refusal lent m kind i r ≡ 0 → Says 0 (field_in lent) m (event_in kind i r) n m₁
      → Played lent (event_in kind i r ∷ es) m₁
  refused : (es : List Event) (m m₁ : List ℕ) (kind i : ℕ) (r : List ℕ) (k n : ℕ) → Played lent es m
      → refusal lent m kind i r ≡ suc k → Says (suc k) (field_in lent) m (event_in kind i r) n m₁
      → Played lent es m₁

-- memory that calls have led to
abbrev pub Reached : FieldNumbers → (memory : List ℕ) → Type 0
Reached lent m = (es : List Event) × Played lent es m

-- memory is what the row of events makes of the hall
abbrev pub Follows : Type 0
Follows =
    (lent : FieldNumbers) (es : List Event) (m : List ℕ) → Played lent es m
    → (memory_ok lent m ≡ true) × ((i : ℕ) → shuttle_in m i ≡ after (field_in lent) es i)

-- the kind of an event's call, and the route that is handed over with it
unfoldable pub kind_of : Event → ℕ
kind_of (order i r) = 0
kind_of (step i) = 1
kind_of (arrive i) = 2

unfoldable pub route_of : Event → List ℕ
route_of (order i r) = r
route_of (step i) = []
route_of (arrive i) = []

-- the calls of these events are accepted where there are n shuttles
unfoldable pub events_ok : ℕ → List Event → Bool
events_ok n [] = true
events_ok n (e ∷ es) = event_ok n (kind_of e) (who e) (route_of e) && events_ok n es

-- each row of accepted events is that of some calls, so that what is promised of memory is promised after each such row
abbrev pub RowIsPlayed : Type 0
RowIsPlayed =
    (lent : FieldNumbers) (es : List Event) → field_ok lent ≡ true → events_ok (length lent.bays) es ≡ true
    → (m : List ℕ) × Played lent es m

-- a call with this memory and this event is answered: it happened
abbrev pub IsDone : FieldNumbers → (memory : List ℕ) → (kind shuttle : ℕ) → (route : List ℕ) → Type 0
IsDone lent m kind i r = (refusal lent m kind i r ≡ 0) × (does (field_in lent) (shuttle_in m) (event_in kind i r) ≡ true)

-- calls of steps and arrivals, each of which happens, lead from one memory to another
pub data Driven (lent : FieldNumbers) (m : List ℕ) : List ℕ → Type 0 where
  here : Driven lent m m
  on : (m₁ m₂ : List ℕ) (kind i : ℕ) → Driven lent m m₁ → 1 ≤ kind → IsDone lent m₁ kind i []
      → Says 0 (field_in lent) m₁ (event_in kind i []) 0 m₂ → Driven lent m m₂

-- what holds of memory that calls have led to
pub record Promised (lent : FieldNumbers) (m : List ℕ) : Type 0 where
  -- no two shuttles hold a square together
  pub apart : (i j c : ℕ) → i < length lent.bays → j < length lent.bays → i ≢ j → holds (shuttle_in m i) c ≡ true
      → holds (shuttle_in m j) c ≢ true
  -- all is safe
  pub all_safe : Safe (length lent.bays) (shuttle_in m)
  -- as long as any shuttle has something left, one is on its way or the call for some step is answered: it happened
  pub goes_on : (i : ℕ) → i < length lent.bays → is_empty (shuttle_in m i).route ≡ false
      → ((j : ℕ) × (j < length lent.bays) × ((shuttle_in m j).moving ≡ true))
      ⊎ ((j : ℕ) × (j < length lent.bays) × IsDone lent m 1 j [])
  -- some calls of steps and arrivals bring all home
  pub comes_home : (m₁ : List ℕ) × Driven lent m m₁ × AllHome (field_in lent) (shuttle_in m₁)
  -- and where no step and no arrival can be made, all are home
  pub ends_home : ((i : ℕ) → i < length lent.bays → does (field_in lent) (shuttle_in m) (step i) ≡ false)
      → ((i : ℕ) → i < length lent.bays → does (field_in lent) (shuttle_in m) (arrive i) ≡ false)
      → AllHome (field_in lent) (shuttle_in m)
  -- a shuttle that stands with nothing left is given any route from its bay
  pub takes_routes : (i : ℕ) (r : List ℕ) → i < length lent.bays → (shuttle_in m i).moving ≡ false
      → is_empty (shuttle_in m i).route ≡ true → length r ≤ 256
      → route_ok (field_in lent) i (slice_index lent.bays i) r ≡ true → IsDone lent m 0 i r
  -- each shuttle is where it may be
  pub placed : (i : ℕ) → i < length lent.bays → Placed (field_in lent) i (shuttle_in m i)

-- memory that calls have led to keeps every promise
abbrev pub KeepsPromises : Type 0
KeepsPromises = (lent : FieldNumbers) (m : List ℕ) → Reached lent m → Promised lent m

-- a call that grants a step leaves exactly one square less to go
abbrev pub StepLeavesLess : Type 0
StepLeavesLess =
    (lent : FieldNumbers) (m : List ℕ) (i : ℕ) (r : List ℕ) (m₁ : List ℕ) → refusal lent m 1 i r ≡ 0
    → Says 0 (field_in lent) m (event_in 1 i r) 0 m₁
    → suc (sum_to squares_left (shuttle_in m₁) (length lent.bays)) ≡ sum_to squares_left (shuttle_in m) (length lent.bays)

-- a call of a step or an arrival that happens leaves exactly one event less; so all come home whichever such calls are made
abbrev pub EventLeavesLess : Type 0
EventLeavesLess =
    (lent : FieldNumbers) (m : List ℕ) (kind i : ℕ) (r : List ℕ) (m₁ : List ℕ) → 1 ≤ kind → refusal lent m kind i r ≡ 0
    → Says 0 (field_in lent) m (event_in kind i r) 0 m₁
    → suc (sum_to events_left (shuttle_in m₁) (length lent.bays)) ≡ sum_to events_left (shuttle_in m) (length lent.bays)

-- what a call of an event answers and leaves: the answer with the memory left, that what was promised of memory is promised again,
-- and that each step that is granted leaves one square less to go and each step or arrival that happens one event less
pub record Answered (lent : FieldNumbers) (m : List ℕ) (kind i : ℕ) (r : List ℕ) (answer : ℕ) (left : List ℕ) : Type 0 where
  pub says : Says (refusal lent m kind i r) (field_in lent) m (event_in kind i r) answer left
  pub stays : Reached lent m → Reached lent left × Promised lent left
  pub less : kind ≡ 1 → answer ≡ 0
      → suc (sum_to squares_left (shuttle_in left) (length lent.bays)) ≡ sum_to squares_left (shuttle_in m) (length lent.bays)
  pub falls : 1 ≤ kind → answer ≡ 0
      → suc (sum_to events_left (shuttle_in left) (length lent.bays)) ≡ sum_to events_left (shuttle_in m) (length lent.bays)
