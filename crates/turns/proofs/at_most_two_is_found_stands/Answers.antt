-- The proof that the contract asks for is the lemma `at_most_two_is_found`.
use Rattle.turns.proofs.Finding.{at_most_two_is_found}
use Rattle.turns.proofs.at_most_two_is_found_stands.Goals as goal

pub returns : goal.returns
returns c = at_most_two_is_found
