-- What is printed.
use Rattle.std.specs.Prelude.{ℕ, List, ◌++◌, Result, Ok, Err, codes, decimal}
use Rattle.route.specs.declared.fault.Fault.{Fault}
use Rattle.route.specs.Judged.{fault_text}
use Rattle.text.specs.declared.answers.Judgement.{Judgement}
use Rattle.text.specs.declared.answers.Answer.{Answer}
use Rattle.text.specs.declared.answers.Answer.TheVariants.{Granted, Not}
use Rattle.field.specs.declared.refusal.Refusal.TheVariants as refusal
use Rattle.text.specs.declared.failure.Failure.{Failure}
use Rattle.text.specs.declared.failure.Failure.TheVariants.{Refused, Memory}

-- a route that is one; else its first wrong step, or, where none is wrong, how many it has
abbrev pub verdict_text : Result (Unit {0}) Fault → List ℕ
verdict_text (Ok _) = codes "route ok"
verdict_text (Err fault) = fault_text fault

abbrev pub judgement_text : Judgement → List ℕ
judgement_text j = verdict_text j.0

-- what happened, and what did not
abbrev pub answer_text : Answer → List ℕ
answer_text Granted = codes "granted"
answer_text Not = codes "not"

-- a failure in words
abbrev pub failure_text : Failure → List ℕ
failure_text (Refused refusal.Field) = codes "the field has no square, or more than 64 across or down"
failure_text (Refused refusal.Memory) = codes "the memory is not accepted"
failure_text (Refused refusal.Event) = codes "there is no such shuttle, or the route has more than 256 letters"
failure_text (Refused (refusal.Text line)) = codes "line " ++ decimal line ++ codes ", counted from 0, can't be read"
failure_text (Refused refusal.Way) = codes "a square is outside the field, or there are more than eight"
failure_text (Refused refusal.Tick) = codes "the waits or the marks of a tick are not accepted"
failure_text Memory = codes "memory allocation failed"
