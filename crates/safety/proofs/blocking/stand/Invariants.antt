-- The table says which of the shuttles so far are on each square.
use Rattle.std.proofs.Common.{◌≡◌, length, get_or}
use Rattle.memory.specs.Shuttles.{nobody}
use Rattle.safety.proofs.Standing.{Stands}
use Rattle.safety.proofs.blocking.stand.Given as goal

abbrev pub invariant-loop-j : goal.invariant-loop-j
invariant-loop-j l = (length l.table ≡ 4096) × Stands (λ k. (get_or l.fleet.shuttles k nobody).at) l.j l.table
