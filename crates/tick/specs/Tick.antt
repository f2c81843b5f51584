-- What a tick answers, and the memory and the waits that it leaves.
use Rattle.std.specs.Prelude.{◌≡◌, ℕ, zero, suc, ◌+◌, ◌<◌, Bool, true, false, cond, ◌&&◌, ◌⊎◌, List, [], length, ◌==◌, nat_le, nat_lt}
use Rattle.rules.specs.Tests.{every}
use Rattle.rules.specs.Field.{Field}
use Rattle.rules.specs.Event.{Event, step, arrive, grants, does, who, becomes}
use Rattle.rules.specs.Memory.{FieldNumbers, field_in, field_ok, memory_ok, event_in, shuttle_in, stored}
use Rattle.calls.specs.Call.{Says, IsDone, Reached, Promised}
use Rattle.turns.specs.Tick.{is_due, Turn, tick}
use Rattle.tick.specs.Answer.{number_for}

-- each wait can count on: it is below the largest number of 64 bits
unfoldable pub can_count : List ℕ → Bool
can_count vs = every (λ w. nat_lt w 0xffff_ffff_ffff_ffff) vs

-- waits and marks that are accepted for n shuttles: as many of each, waits that can count on, marks of 0 or 1
unfoldable pub turns_ok : (n : ℕ) → (waits marks : List ℕ) → Bool
turns_ok n vs marks = length vs == n && (length marks == n && (can_count vs && every (λ k. nat_le k 1) marks))

-- the number by which a tick is turned away, the first that applies: 1 the field, 2 memory, 6 waits or marks; 0 if it is not
unfoldable pub tick_refusal : FieldNumbers → (memory waits marks : List ℕ) → ℕ
tick_refusal lent m vs marks =
    cond (field_ok lent) (cond (memory_ok lent m) (cond (turns_ok (length lent.bays) vs marks) 0 6) 2) 1

-- the memory that the call of an event leaves
unfoldable pub called : Field → List ℕ → Event → List ℕ
called f m e = cond (does f (shuttle_in m) e) (stored m (who e) (becomes e (shuttle_in m (who e)))) m

-- memory after the calls of the arrivals that are due of the first k shuttles, in order
unfoldable pub come_in : Field → (memory marks : List ℕ) → ℕ → List ℕ
come_in f m marks zero = m
come_in f m marks (suc k) = cond (is_due marks k) (called f (come_in f m marks k) (arrive k)) (come_in f m marks k)

-- calls of arrivals that are due, each of which happens, lead from one memory to another
pub data Arrived (lent : FieldNumbers) (marks m : List ℕ) : List ℕ → Type 0 where
  none : Arrived lent marks m m
  one_more : (m₁ m₂ : List ℕ) (i : ℕ) → Arrived lent marks m m₁ → is_due marks i ≡ true → IsDone lent m₁ 2 i []
      → Says 0 (field_in lent) m₁ (event_in 2 i []) 0 m₂ → Arrived lent marks m m₂

-- a row of calls: arrivals that are due, and then the step of `whose`, which happens; or none, where no step would be granted
pub record CalledRow (lent : FieldNumbers) (marks m : List ℕ) (whose : ℕ) (m₁ : List ℕ) : Type 0 where
  pub between : List ℕ
  pub arrivals : Arrived lent marks m between
  pub then : ((whose < length lent.bays) × IsDone lent between 1 whose [] × Says 0 (field_in lent) between (event_in 1 whose []) 0 m₁)
      ⊎ ((whose ≡ length lent.bays) × ((i : ℕ) → i < length lent.bays → grants (field_in lent) (shuttle_in between) i ≡ false) × (m₁ ≡ between))

-- what a tick that comes to t answers and leaves
pub record ComesTo (t : Turn) (lent : FieldNumbers) (marks m : List ℕ) (n : ℕ) (m₁ vs₁ : List ℕ) : Type 0 where
  -- the answer says whose step is granted
  pub answer : n ≡ number_for (length lent.bays) t.whose
  -- each shuttle in memory, and the waits
  pub shuttles : (j : ℕ) → shuttle_in m₁ j ≡ t.fleet j
  pub counts : vs₁ ≡ t.waits
  -- memory, number by number: what the calls of the arrivals and of the step leave
  pub left : m₁ ≡ called (field_in lent) (come_in (field_in lent) m marks (length lent.bays)) (step t.whose)
  -- and those of them that happen are a row
  pub row : CalledRow lent marks m t.whose m₁

-- what a tick with this refusal (0: none) answers, as a number, and the memory and the waits that it leaves
unfoldable pub TickSays : (refused : ℕ) → FieldNumbers → (memory waits marks : List ℕ) → (answer : ℕ)
    → (memory_left waits_left : List ℕ) → Type 0
TickSays zero lent m vs marks n m₁ vs₁ = ComesTo (tick (field_in lent) (shuttle_in m) vs marks) lent marks m n m₁ vs₁
TickSays (suc k) lent m vs marks n m₁ vs₁ = (n ≡ 16 + suc k) × (m₁ ≡ m) × (vs₁ ≡ vs)

-- what a tick answers and leaves: the answer with what it leaves, and that what was promised of memory is promised again
pub record Answered (lent : FieldNumbers) (m vs marks : List ℕ) (answer : ℕ) (m₁ vs₁ : List ℕ) : Type 0 where
  pub says : TickSays (tick_refusal lent m vs marks) lent m vs marks answer m₁ vs₁
  pub stays : Reached lent m → Reached lent m₁ × Promised lent m₁
