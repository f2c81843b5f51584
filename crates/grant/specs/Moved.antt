-- What a step makes of a shuttle of the code.
use Rattle.std.specs.Prelude.{ℕ, ◌+◌, ◌-◌, true, List, slice_index}
use Rattle.memory.specs.declared.shuttle.Shuttle.{Shuttle as Kept}

-- on its way to the next square, with one place of memory less left
abbrev pub moved : List ℕ → Kept → Kept
moved m s = record { at = slice_index m s.from; moving = true; behind = s.at; from = s.from + 1; left = s.left - 1 }
