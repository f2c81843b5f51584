-- A call that grants a step leaves exactly one square less to go.
use Rattle.calls.proofs.Less.{step_leaves_less}
use Rattle.calls.proofs.step_leaves_less_stands.Goals as goal

pub returns : goal.returns
returns c = step_leaves_less
