-- Each step so far may be made: what is left of the row decides.
use Rattle.field.specs.Model.{field_of}
use Rattle.route.proofs.Judging.{Judging}
use Rattle.route.proofs.steps.judge.Given as goal

abbrev pub invariant-loop-k : goal.invariant-loop-k
invariant-loop-k l = Judging (field_of l.field) l.shuttle l.from l.at l.k l.route
