-- The proof that the contract asks for is the lemma `nobody_starves`.
use Rattle.turns.proofs.Nights.{nobody_starves}
use Rattle.turns.proofs.nobody_starves_stands.Goals as goal

pub returns : goal.returns
returns c = nobody_starves
