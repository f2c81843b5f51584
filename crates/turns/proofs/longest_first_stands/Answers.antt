-- The proof that the contract asks for is the lemma `longest_first`.
use Rattle.turns.proofs.Ticks.{longest_first}
use Rattle.turns.proofs.longest_first_stands.Goals as goal

pub returns : goal.returns
returns c = longest_first
