-- The sets so far are those of the shuttles so far.
use Rattle.std.proofs.Common.{◌≡◌, ℕ, ◌<◌, length, get_or}
use Rattle.safety.specs.Masks.{has, met}
use Rattle.safety.specs.Fleets.{fleet_of}
use Rattle.safety.proofs.blocking.blockers.Given as goal

abbrev pub invariant-loop-i : goal.invariant-loop-i
invariant-loop-i l =
    (length l.sets ≡ 16)
    × ((k : ℕ) → k < l.i → (j : ℕ) → has (get_or l.sets k 0) j ≡ met l.table j (fleet_of l.fleet.shuttles l.fleet.memory.now k).route)
