-- What a route is judged to be, and what is printed of it.
use Rattle.std.specs.Prelude.{ℕ, cond, List, length, nat_lt, Result, Ok, Err, decimal}
use Rattle.rules.specs.Field.{Field}
use Rattle.rules.specs.Route.{route_ok, first_wrong}
use Rattle.route.specs.declared.fault.Fault.{Fault}
use Rattle.route.specs.declared.fault.Fault.TheVariants.{WrongAt, OutsideAfter}

-- right if it is a route; else wrong at the first step that may not be made; else, each step being right, it ends outside the bay
unfoldable pub verdict : Field → ℕ → ℕ → List ℕ → Result (Unit {0}) Fault
verdict f i c r =
    cond (route_ok f i c r) (Ok tt) (cond (nat_lt (first_wrong f i c r) (length r)) (Err (WrongAt (first_wrong f i c r))) (Err (OutsideAfter (length r))))

-- the number of the wrong step, or of the steps
abbrev pub fault_text : Fault → List ℕ
fault_text (WrongAt step) = decimal step
fault_text (OutsideAfter steps) = decimal steps
