-- The proof that the contract asks for is the lemma `less_left`.
use Rattle.promise.proofs.Home.{less_left}
use Rattle.promise.proofs.less_left_stands.Goals as goal

pub returns : goal.returns
returns c = less_left
