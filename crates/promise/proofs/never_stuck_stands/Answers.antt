-- The proof that the contract asks for is the lemma `never_stuck`.
use Rattle.promise.proofs.GoingOn.{never_stuck}
use Rattle.promise.proofs.never_stuck_stands.Goals as goal

pub returns : goal.returns
returns c = never_stuck
