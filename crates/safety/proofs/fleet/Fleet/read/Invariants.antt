-- The shuttles read so far are those of memory; past them nobody is.
use Rattle.std.proofs.Common.{◌≡◌, ℕ, ◌<◌, length, get_or}
use Rattle.memory.specs.Shuttles.{nobody, kept_at}
use Rattle.safety.proofs.fleet.Fleet.read.Given as goal

abbrev pub invariant-loop-i : goal.invariant-loop-i
invariant-loop-i l =
    (length l.shuttle-items ≡ l.count)
    × ((k : ℕ) → k < l.i → get_or l.shuttle-items k nobody ≡ kept_at l.memory k)
