-- The proof that the contract asks for is the lemma `each_comes_home`.
use Rattle.turns.proofs.Nights.{each_comes_home}
use Rattle.turns.proofs.each_comes_home_stands.Goals as goal

pub returns : goal.returns
returns c = each_comes_home
