-- What the grant rule tries is the rule.
use Rattle.agents.proofs.Grants.{may_is}
use Rattle.agents.proofs.may_is_granted.Goals as goal

pub returns : goal.returns
returns g c = may_is
