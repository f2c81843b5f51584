-- The proof that the contract asks for is the lemma `all_done_in_time`.
use Rattle.turns.proofs.Bounds.{all_done_in_time}
use Rattle.turns.proofs.all_done_in_time_stands.Goals as goal

pub returns : goal.returns
returns c = all_done_in_time
