-- Who was met so far, and who is still to be met.
use Rattle.std.proofs.Common.{◌≡◌, ℕ, ◌||◌, drop}
use Rattle.safety.specs.Masks.{has, met}
use Rattle.safety.proofs.blocking.met_on.Given as goal

abbrev pub invariant-loop-c : goal.invariant-loop-c
invariant-loop-c l = (j : ℕ) → (has l.all j || met l.table j (drop l.c-index l.route)) ≡ met l.table j l.route
