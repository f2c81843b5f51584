-- The way so far, for each shuttle in whose bay the row ends.
use Rattle.std.proofs.Common.{ℕ, ◌*◌, ◌<◌}
use Rattle.field.specs.Model.{field_of}
use Rattle.ways.specs.Good.{Ends}
use Rattle.ways.proofs.Leading.{Leading}
use Rattle.way.proofs.legs.lead.Given as goal

abbrev pub invariant-loop-k : goal.invariant-loop-k
invariant-loop-k l =
    ((i : ℕ) → Ends ((field_of l.field).bay i) l.goals → Leading (field_of l.field) i l.from l.goals l.made.items l.at l.k)
    × (l.at < l.field.across * l.field.down)
