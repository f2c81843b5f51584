-- What a call leaves is accepted again, and is what the event makes of the hall.
use Rattle.calls.proofs.Follow.{stays_accepted}
use Rattle.calls.proofs.stays_accepted_stands.Goals as goal

pub returns : goal.returns
returns c = stays_accepted
