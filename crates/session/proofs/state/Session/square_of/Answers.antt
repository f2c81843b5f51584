-- A shuttle that is there has its square in memory.
use Rattle.std.proofs.Common.{ap, arith}
use Rattle.rules.specs.Memory.{shuttle_in}
use Rattle.memory.specs.declared.shuttle.Shuttle.{Shuttle}
use Rattle.session.proofs.state.Session.square_of.Goals as goal

pub returns-then-shuttle-len : goal.returns-then-shuttle-len
unfolding shuttle_in
returns-then-shuttle-len c = (omega (arith, c.if-shuttle-len.true, c.len.ensures), ap (λ (s : Shuttle). s.at) c.shuttle.ensures)
