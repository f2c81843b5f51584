-- The squares found so far, and those of the letters to come, are all squares.
use Rattle.std.proofs.Common.{◌≡◌, ◌-◌, ◌++◌, vec_items}
use Rattle.text.specs.Fields.{bays_from}
use Rattle.text.proofs.fields.bays_of.Given as goal

abbrev pub invariant-loop-letter : goal.invariant-loop-letter
invariant-loop-letter l = vec_items l.bays ++ bays_from (113 - l.letter-counter) l.letter-counter l.all ≡ bays_from 16 97 l.all
