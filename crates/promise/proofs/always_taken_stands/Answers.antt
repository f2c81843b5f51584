-- The proof that the contract asks for is the lemma `always_taken`.
use Rattle.promise.proofs.GoingOn.{always_taken}
use Rattle.promise.proofs.always_taken_stands.Goals as goal

pub returns : goal.returns
returns c = always_taken
