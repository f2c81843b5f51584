-- The shuttles of the code, which keep what is left of their routes in memory, and for which of the rules they stand.
use Rattle.std.specs.Prelude.{ℕ, ◌+◌, ◌*◌, false, List, take, drop, ◌==◌, slice_index}
use Rattle.rules.specs.Shuttle.{Shuttle}
use Rattle.memory.specs.declared.shuttle.Shuttle.{Shuttle as Kept}

-- the shuttle past the last one
abbrev pub nobody : Kept
nobody = record { at = 0; moving = false; behind = 0; from = 0; left = 0 }

-- the shuttle that a value of the code stands for: what is left of its route are so many places of memory, from `from` on
abbrev pub shuttle_of : List ℕ → Kept → Shuttle
shuttle_of m s = record { at = s.at; moving = s.moving; behind = s.behind; route = take s.left (drop s.from m) }

-- shuttle i of this memory
abbrev pub kept_at : List ℕ → ℕ → Kept
kept_at m i =
    record {
      at = slice_index m (260 * i);
      moving = (slice_index m (260 * i + 1) == 1);
      behind = slice_index m (260 * i + 2);
      from = 260 * i + 4;
      left = slice_index m (260 * i + 3);
    }
