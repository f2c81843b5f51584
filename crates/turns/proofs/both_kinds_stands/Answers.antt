-- The proof that the contract asks for is the lemma `both_kinds`.
use Rattle.turns.proofs.Examples.{both_kinds}
use Rattle.turns.proofs.both_kinds_stands.Goals as goal

pub returns : goal.returns
returns c = both_kinds
