-- What is answered, or why not.
use Rattle.std.specs.Prelude.{Ok, Err, Result}
use Rattle.field.specs.declared.refusal.Refusal.{Refusal}
use Rattle.text.specs.declared.failure.Failure.{Failure}
use Rattle.text.specs.declared.failure.Failure.TheVariants.{Refused, Memory}

-- a fact of what is answered, or of why it is turned away; memory may run out at any time, and then nothing is said
abbrev pub UnlessMemory : {A : Type 0} → Result A Failure → (Result A Refusal → Type 0) → Type 0
UnlessMemory (Ok answer) P = P (Ok answer)
UnlessMemory (Err (Refused refusal)) P = P (Err refusal)
UnlessMemory (Err Memory) P = Unit {0}
