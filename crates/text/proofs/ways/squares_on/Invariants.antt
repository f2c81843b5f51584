-- The squares so far, and those that the ways to come lead over, are all squares.
use Rattle.std.proofs.Common.{◌≡◌, ◌++◌, drop, vec_items}
use Rattle.field.specs.Model.{field_of}
use Rattle.text.specs.Routes.{squares_of}
use Rattle.text.proofs.ways.squares_on.Given as goal

abbrev pub invariant-loop-way : goal.invariant-loop-way
invariant-loop-way l = vec_items l.squares ++ squares_of (field_of l.field) l.at (drop l.way-index l.ways) ≡ squares_of (field_of l.field) l.from l.ways
