-- Memory that calls have led to keeps every promise.
use Rattle.calls.proofs.Keep.{keeps_promises}
use Rattle.calls.proofs.keeps_promises_stands.Goals as goal

pub returns : goal.returns
returns c = keeps_promises
