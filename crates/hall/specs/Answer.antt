-- The answers of the entry, as numbers.
use Rattle.std.specs.Prelude.{ℕ, ◌+◌, Bool, cond, Result, Ok, Err}
use Rattle.field.specs.declared.refusal.Refusal.{Refusal}
use Rattle.field.specs.Refusals.{number_of}
use Rattle.hall.specs.declared.done.Done.{Done}
use Rattle.hall.specs.declared.done.Done.TheVariants.{Happened, Not, Refused}

-- what is answered where the event happens or not, or the call is turned away
abbrev pub done_of : Result Bool Refusal → Done
done_of (Ok happens) = cond happens Happened Not
done_of (Err refusal) = Refused (number_of refusal)

-- happened 0, not 1, refusal n as 16 + n
unfoldable pub number : Done → ℕ
number Happened = 0
number Not = 1
number (Refused n) = 16 + n

-- the refusal, or 0
unfoldable pub refusal_of : Done → ℕ
refusal_of Happened = 0
refusal_of Not = 0
refusal_of (Refused n) = n
