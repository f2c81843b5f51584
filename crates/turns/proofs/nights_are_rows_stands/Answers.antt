-- The proof that the contract asks for is the lemma `nights_are_rows`.
use Rattle.turns.proofs.Nights.{nights_are_rows}
use Rattle.turns.proofs.nights_are_rows_stands.Goals as goal

pub returns : goal.returns
returns c = nights_are_rows
