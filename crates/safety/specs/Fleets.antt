-- The fleet that sixteen shuttles of the code stand for.
use Rattle.std.specs.Prelude.{ℕ, ◌+◌, Bool, ◌&&◌, List, length, take, drop, ◌==◌, nat_le, nat_lt, slice_index_or}
use Rattle.rules.specs.Tests.{every_to, every}
use Rattle.rules.specs.Shuttle.{Fleet}
use Rattle.memory.specs.declared.shuttle.Shuttle.{Shuttle as Kept}
use Rattle.memory.specs.Shuttles.{nobody, shuttle_of}

-- the fleet that an array of the code stands for
abbrev pub fleet_of : List Kept → List ℕ → Fleet
fleet_of ss m i = shuttle_of m (slice_index_or ss i nobody)

-- what is left of it lies in memory, and each of its squares is below 4096
unfoldable pub fits_in : List ℕ → Kept → Bool
fits_in m s =
    nat_lt s.at 4096 && (nat_le (s.from + s.left) (length m) && every (λ c. nat_lt c 4096) (take s.left (drop s.from m)))

-- sixteen shuttles, of which each of the first n, at most 16, fits; and memory has room for no more
unfoldable pub all_fit : List Kept → ℕ → List ℕ → Bool
all_fit ss n m =
    length ss == 16 && (nat_le n 16 && (nat_le (length m) 4160 && every_to (λ i. fits_in m (slice_index_or ss i nobody)) n))
