-- A call of a step or an arrival that happens leaves exactly one event less.
use Rattle.calls.proofs.Less.{event_leaves_less}
use Rattle.calls.proofs.event_leaves_less_stands.Goals as goal

pub returns : goal.returns
returns c = event_leaves_less
