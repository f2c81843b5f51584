-- Each can go or waits for a closed one, and never both.
use Rattle.agents.proofs.Going.{waits_not}
use Rattle.agents.proofs.Taking.{goes_or_waits}
use Rattle.agents.proofs.goes_or_waits.Goals as goal

pub returns : goal.returns
returns c = λ n w k f i l. (goes_or_waits k (f i l), λ g r. waits_not r g)
