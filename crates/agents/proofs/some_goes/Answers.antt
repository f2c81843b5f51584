-- Somebody is granted what it needs.
use Rattle.agents.proofs.Grants.{some_goes}
use Rattle.agents.proofs.some_goes.Goals as goal

pub returns : goal.returns
returns g c = some_goes
