-- The shuttles so far are written at home.
use Rattle.std.proofs.Common.{◌≡◌, ◌*◌, length}
use Rattle.rules.specs.Memory.{field_numbers, field_in, started}
use Rattle.hall.proofs.starting.start.Given as goal

abbrev pub invariant-loop-i : goal.invariant-loop-i
invariant-loop-i l =
    (l.memory ≡ started (field_in (field_numbers l.across l.down l.walls l.bays)) l.i l.initial.memory)
    × (length l.memory ≡ 260 * length l.bays)
