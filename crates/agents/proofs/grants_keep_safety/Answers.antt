-- A granted change keeps safety.
use Rattle.agents.proofs.Grants.{may_is, granted_apart}
use Rattle.agents.proofs.grants_keep_safety.Goals as goal

pub returns : goal.returns
returns g c = λ K n fleet i cs s l p w e. let h = (may_is K n fleet i cs s).0 e in (granted_apart K n fleet i cs s p l w h, h.all, h.each)
