-- The proof that the contract asks for is the lemma `ends_home`.
use Rattle.promise.proofs.Home.{ends_home}
use Rattle.promise.proofs.ends_home_stands.Goals as goal

pub returns : goal.returns
returns c = ends_home
