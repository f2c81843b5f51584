-- The proof that the contract asks for is the lemma `starves`.
use Rattle.turns.proofs.Starving.{starves}
use Rattle.turns.proofs.starves_stands.Goals as goal

pub returns : goal.returns
returns c = starves
