-- The proof that the contract asks for is the lemma `ticks_are_rows`.
use Rattle.turns.proofs.Ticks.{ticks_are_rows}
use Rattle.turns.proofs.ticks_are_rows_stands.Goals as goal

pub returns : goal.returns
returns c = ticks_are_rows
