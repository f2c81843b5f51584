-- The letters so far, and those of the squares that are left, are all letters.
use Rattle.std.proofs.Common.{◌≡◌, ◌++◌, drop, vec_items}
use Rattle.field.specs.Model.{field_of}
use Rattle.session.specs.Ways.{letters_of}
use Rattle.session.proofs.leading.letters_of.Given as goal

abbrev pub invariant-loop-square : goal.invariant-loop-square
invariant-loop-square l =
    vec_items l.letters ++ letters_of (field_of l.field) l.at (drop l.square-index l.route) ≡ letters_of (field_of l.field) l.from l.route
