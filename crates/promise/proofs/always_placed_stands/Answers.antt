-- The proof that the contract asks for is the lemma `always_placed`.
use Rattle.promise.proofs.GoingOn.{always_placed}
use Rattle.promise.proofs.always_placed_stands.Goals as goal

pub returns : goal.returns
returns c = always_placed
