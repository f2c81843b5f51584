-- Taking out, again and again, finds exactly those who can go.
use Rattle.agents.proofs.Taking.{can_go_is}
use Rattle.agents.proofs.taking_out_is_right.Goals as goal

pub returns : goal.returns
returns c = can_go_is
