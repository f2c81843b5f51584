-- The proof that the contract asks for is the lemma `waits_count`.
use Rattle.turns.proofs.Ticks.{waits_count}
use Rattle.turns.proofs.waits_count_stands.Goals as goal

pub returns : goal.returns
returns c = waits_count
