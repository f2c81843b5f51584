-- The proof that the contract asks for is the lemma `way_home`.
use Rattle.promise.proofs.Home.{way_home}
use Rattle.promise.proofs.way_home_stands.Goals as goal

pub returns : goal.returns
returns c = way_home
