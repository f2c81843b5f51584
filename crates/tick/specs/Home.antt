-- Coming home by ticks over memory.
use Rattle.std.specs.Prelude.{ℕ, suc, ◌*◌, ◌≤◌, max, List, length}
use Rattle.rules.specs.Memory.{FieldNumbers, field_in, shuttle_in}
use Rattle.promise.specs.Promise.{AllHome, sum_to, squares_left}
use Rattle.calls.specs.Call.{Reached}
use Rattle.turns.specs.Tick.{tick}
use Rattle.turns.specs.Home.{ArrivalsWithin}
use Rattle.tick.specs.Tick.{TickSays}

-- ticks, one after the other, over memory that calls have led to, with no order between them: what is left after t ticks, and the marks and
-- the answer of tick t
pub record TicksOver (lent : FieldNumbers) (memory waits marks : ℕ → List ℕ) (answer : ℕ → ℕ) : Type 0 where
  pub begins : Reached lent (memory 0)
  pub made : (t : ℕ) → TickSays 0 lent (memory t) (waits t) (marks t) (answer t) (memory (suc t)) (waits (suc t))

-- each arrival comes within so many ticks of its step, and of the start if the shuttle moves then
abbrev pub MarkedWithin : (lent : FieldNumbers) (memory waits marks : ℕ → List ℕ) (late : ℕ) → Type 0
MarkedWithin lent memory waits marks late =
    ArrivalsWithin (field_in lent) (λ t. shuttle_in (memory t)) marks
    (λ t. (tick (field_in lent) (shuttle_in (memory t)) (waits t) (marks t)).whose) late

-- then all are home after (squares left + 1) times so many ticks, or as many if that is 0
abbrev pub MemoryComesHome : Type 0
MemoryComesHome =
    (lent : FieldNumbers) (memory waits marks : ℕ → List ℕ) (answer : ℕ → ℕ) (late : ℕ) → TicksOver lent memory waits marks answer
    → MarkedWithin lent memory waits marks late → (t : ℕ) → suc (sum_to squares_left (shuttle_in (memory 0)) (length lent.bays)) * max late 1 ≤ t
    → AllHome (field_in lent) (shuttle_in (memory t))
