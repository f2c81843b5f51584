-- The proof that the contract asks for is the lemma `due_come`.
use Rattle.turns.proofs.Ticks.{due_come}
use Rattle.turns.proofs.due_come_stands.Goals as goal

pub returns : goal.returns
returns c = due_come
