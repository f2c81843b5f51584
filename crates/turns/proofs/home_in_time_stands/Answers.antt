-- The proof that the contract asks for is the lemma `home_in_time`.
use Rattle.turns.proofs.Home.{home_in_time}
use Rattle.turns.proofs.home_in_time_stands.Goals as goal

pub returns : goal.returns
returns c = home_in_time
