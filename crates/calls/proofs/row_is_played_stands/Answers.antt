-- Each row of accepted events is that of some calls.
use Rattle.calls.proofs.Row.{row_is_played}
use Rattle.calls.proofs.row_is_played_stands.Goals as goal

pub returns : goal.returns
returns c = row_is_played
