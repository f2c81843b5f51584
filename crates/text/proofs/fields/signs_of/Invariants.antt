-- The rows passed fit, their signs are kept, and whether all fit is told by the rows that are left.
use Rattle.std.proofs.Common.{◌≡◌, [], ◌++◌, drop, vec_items}
use Rattle.text.specs.Lines.{pieces}
use Rattle.text.specs.Fields.{misfit, signs}
use Rattle.text.proofs.fields.signs_of.Given as goal

abbrev pub invariant-loop-i : goal.invariant-loop-i
invariant-loop-i l =
    (misfit l.across l.i (vec_items l.signs) (drop l.i (pieces l.rows)) ≡ misfit l.across 0 [] (pieces l.rows))
    × (vec_items l.signs ++ signs (drop l.i (pieces l.rows)) ≡ signs (pieces l.rows))
