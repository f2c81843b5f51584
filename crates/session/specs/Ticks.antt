-- What a tick of the hall comes to.
use Rattle.std.specs.Prelude.{◌≡◌, ℕ, ◌+◌, ◌-◌, ◌^◌, min, cond, List, map, length, replicate, Some, None, Ok, Err, vec_items, Option, Result, nat_le, slice_set}
use Rattle.field.specs.declared.refusal.Refusal.{Refusal}
use Rattle.tick.specs.Answer.{number}
use Rattle.tick.specs.Tick.{tick_refusal, TickSays}
use Rattle.session.specs.Played.{numbers_of, memory_of}
use Rattle.session.specs.declared.state.Session.{Session}
use Rattle.session.specs.declared.clock.Clock.{Clock}

-- an age one tick later, as far as 64 bits tell
abbrev pub later : ℕ → ℕ
later a = min (a + 1) (2 ^ 64 - 1)

-- the mark of an age: 1 if the arrival is due
abbrev pub mark_at : (due age : ℕ) → ℕ
mark_at d a = cond (nat_le d a) 1 0

abbrev pub older : List ℕ → List ℕ
older ages = map later ages

abbrev pub marks_at : (due : ℕ) → List ℕ → List ℕ
marks_at d ages = map (mark_at d) ages

-- the ages after an answer: that of a step that was granted is 0
abbrev pub ages_after : Result (Option ℕ) Refusal → List ℕ → List ℕ
ages_after (Ok (Some i)) ages = slice_set ages i 0
ages_after (Ok None) ages = ages
ages_after (Err r) ages = ages

-- the entry's tick with these waits and marks: its answer, and the memory and the waits that it leaves; the field stays
pub record Turned (s t : Session) (waits waits_left marks : List ℕ) (answer : Result (Option ℕ) Refusal) : Type 0 where
  pub same : numbers_of t ≡ numbers_of s
  pub says : TickSays (tick_refusal (numbers_of s) (memory_of s) waits marks) (numbers_of s) (memory_of s) waits marks
      (number answer) (memory_of t) waits_left

-- a tick of the hall with its clock: every age is one more, each that is due or over has its mark, and the age of the step granted is 0
pub record TicksOn (s t : Session) (k l : Clock) (due : ℕ) (answer : Result (Option ℕ) Refusal) : Type 0 where
  pub turned : Turned s t (vec_items k.waits) (vec_items l.waits) (marks_at due (older (vec_items k.ages))) answer
  pub ages : vec_items l.ages ≡ ages_after answer (older (vec_items k.ages))

-- no tick was made: nobody has waited, and no step has an age
pub record Fresh (s : Session) (k : Clock) : Type 0 where
  pub waits : vec_items k.waits ≡ replicate (length (numbers_of s).bays) 0
  pub ages : vec_items k.ages ≡ replicate (length (numbers_of s).bays) 0
