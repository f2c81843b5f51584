-- The proof that the contract asks for is the lemma `parts_are_found`.
use Rattle.turns.proofs.Finding.{parts_are_found}
use Rattle.turns.proofs.parts_are_found_stands.Goals as goal

pub returns : goal.returns
returns c = parts_are_found
