-- Memory is what the row of events makes of the hall.
use Rattle.calls.proofs.Follow.{follows}
use Rattle.calls.proofs.follows_stands.Goals as goal

pub returns : goal.returns
returns c = follows
