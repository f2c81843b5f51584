-- The free squares so far are marked, and then the bays so far are not.
use Rattle.field.specs.Model.{field_of}
use Rattle.ways.proofs.Marks.{Marks, free_below, open_to}
use Rattle.way.proofs.ground.open_ground.Given as goal

abbrev pub invariant-loop-square : goal.invariant-loop-square
invariant-loop-square l = Marks (free_below (field_of l.field) l.square) l.table

abbrev pub invariant-loop-bay : goal.invariant-loop-bay
invariant-loop-bay l = Marks (open_to (field_of l.field) l.bay-index) l.table
