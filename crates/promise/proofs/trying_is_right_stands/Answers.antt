-- The proof that the contract asks for is the lemma `trying_is_right`.
use Rattle.promise.proofs.GoingOn.{trying_is_right}
use Rattle.promise.proofs.trying_is_right_stands.Goals as goal

pub returns : goal.returns
returns c = trying_is_right
