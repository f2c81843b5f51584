-- The answers of a tick: as numbers, and whose step is granted.
use Rattle.std.specs.Prelude.{ℕ, ◌+◌, ◌*◌, cond, Some, None, Ok, Err, Option, Result, ◌==◌}
use Rattle.field.specs.declared.refusal.Refusal.{Refusal}
use Rattle.field.specs.Refusals.{number_of}

-- the step of shuttle i granted 256 * i, nobody's 1, refusal n as 16 + n
abbrev pub number : Result (Option ℕ) Refusal → ℕ
number (Ok (Some i)) = 256 * i
number (Ok None) = 1
number (Err r) = 16 + number_of r

-- the refusal, or 0
abbrev pub refusal_of : Result (Option ℕ) Refusal → ℕ
refusal_of (Ok a) = 0
refusal_of (Err r) = number_of r

-- the number of the answer where the step of `whose` is granted, or nobody's if that is the number of shuttles
unfoldable pub number_for : (shuttles whose : ℕ) → ℕ
number_for n i = cond (i == n) 1 (256 * i)

-- whose step is granted: nobody's if the choice is the number of shuttles
unfoldable pub whose_of : (shuttles choice : ℕ) → Option ℕ
whose_of n i = cond (i == n) None (Some i)
