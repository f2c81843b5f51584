-- The proof that the contract asks for is the lemma `home_by_ticks`.
use Rattle.turns.proofs.Home.{home_by_ticks}
use Rattle.turns.proofs.home_by_ticks_stands.Goals as goal

pub returns : goal.returns
returns c = home_by_ticks
