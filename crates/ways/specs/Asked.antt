-- What may be asked for, and by which number all else is turned away.
use Rattle.std.specs.Prelude.{ℕ, ◌*◌, Bool, cond, not, ◌&&◌, ◌||◌, List, length, ◌==◌, nat_le, nat_lt}
use Rattle.rules.specs.Tests.{every}
use Rattle.rules.specs.Field.{Field, free_square, is_bay}
use Rattle.rules.specs.Memory.{FieldNumbers, field_in, field_ok}

-- shuttle i may start from square c: it is free and nobody else's bay
unfoldable pub start_ok : Field → ℕ → ℕ → Bool
start_ok f i c = free_square f c && (not (is_bay f c) || c == f.bay i)

-- at most eight squares, none outside the field; a square to start from; 256 places for the route
unfoldable pub asked_ok : Field → ℕ → ℕ → List ℕ → ℕ → Bool
asked_ok f i c row places =
    nat_le (length row) 8 && (every (λ g. nat_lt g (f.across * f.down)) row && (start_ok f i c && places == 256))

-- the number by which a question is turned away, the first that applies: 1 the field, 3 a shuttle that isn't there, 5 the rest; 0 if it is not
unfoldable pub way_refusal : FieldNumbers → (shuttle from : ℕ) → (row : List ℕ) → (places : ℕ) → ℕ
way_refusal lent i c row places =
    cond (field_ok lent) (cond (nat_lt i (length lent.bays)) (cond (asked_ok (field_in lent) i c row places) 0 5) 3) 1
