-- A hall that is played: its field, its shuttles, what comes of opening it, and of an event in it.
use Rattle.std.specs.Prelude.{◌≡◌, ℕ, ◌+◌, ◌<◌, Bool, false, cond, List, length, Ok, Err, vec_items, Result}
use Rattle.rules.specs.Field.{Field}
use Rattle.rules.specs.Shuttle.{Fleet, at_home}
use Rattle.rules.specs.Event.{Event}
use Rattle.rules.specs.Memory.{FieldNumbers, field_in, field_ok, shuttle_in}
use Rattle.calls.specs.Call.{Says, Reached, Promised}
use Rattle.field.specs.Refusals.{number_of}
use Rattle.field.specs.declared.refusal.Refusal.{Refusal}
use Rattle.field.specs.declared.refusal.Refusal.TheVariants as refusal
use Rattle.hall.specs.Answer.{done_of, number}
use Rattle.hall.specs.Call.{accepts}
use Rattle.text.specs.declared.field_text.FieldText.{FieldText}
use Rattle.text.specs.declared.answers.Answer.{Answer}
use Rattle.text.specs.declared.answers.Answer.TheVariants.{Granted, Not}
use Rattle.text.specs.Shown.{numbers_of as numbers_shown}
use Rattle.session.specs.declared.state.Session.{Session}

-- the numbers of its field, and its memory
abbrev pub numbers_of : Session → FieldNumbers
numbers_of s = numbers_shown s.shown

abbrev pub memory_of : Session → List ℕ
memory_of s = vec_items s.memory

-- its field, its shuttles, and what holds of them: every promise of memory that calls have led to
abbrev pub field_of : Session → Field
field_of s = field_in (numbers_of s)

abbrev pub fleet_of : Session → Fleet
fleet_of s = shuttle_in (memory_of s)

abbrev pub Kept : Session → Type 0
Kept s = ∥ Promised (numbers_of s) (memory_of s) ∥₁

-- a hall is opened on the field that was read, with each shuttle at home
pub record Begun (t : FieldText) (s : Session) : Type 0 where
  pub same : numbers_of s ≡ numbers_shown t
  pub home : (i : ℕ) → i < length (numbers_of s).bays → fleet_of s i ≡ at_home (field_of s) i

-- or what was read is no field
abbrev pub Opened : FieldText → Result Session Refusal → Type 0
Opened t (Ok s) = Begun t s
Opened t (Err r) = (r ≡ refusal.Field) × (field_ok (numbers_shown t) ≡ false)

-- an event in memory: the answer and the memory left are those of the entry, turned away by 3 for an event that is none
abbrev pub TakenBy : FieldNumbers → (memory : List ℕ) → Event → (answer : ℕ) → (left : List ℕ) → Type 0
TakenBy lent m e n left = Says (cond (accepts (length lent.bays) e) 0 3) (field_in lent) m e n left

-- and memory that calls have led to is such memory again
pub record Taken (lent : FieldNumbers) (m : List ℕ) (e : Event) (r : Result Bool Refusal) (left : List ℕ) : Type 0 where
  pub says : TakenBy lent m e (number (done_of r)) left
  pub stays : Reached lent m → Reached lent left

-- the number of an answer, as the entry has it: 0 granted, 1 not, 16 + n turned away by n
abbrev pub answer_number : Result Answer Refusal → ℕ
answer_number (Ok Granted) = 0
answer_number (Ok Not) = 1
answer_number (Err r) = 16 + number_of r

-- an event in the hall: its answer, and the hall after it; the field stays
pub record Came (s t : Session) (e : Event) (a : Result Answer Refusal) : Type 0 where
  pub same : numbers_of t ≡ numbers_of s
  pub says : TakenBy (numbers_of s) (memory_of s) e (answer_number a) (memory_of t)
