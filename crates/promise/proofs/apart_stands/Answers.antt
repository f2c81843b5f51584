-- The proof that the contract asks for is the lemma `apart`.
use Rattle.promise.proofs.GoingOn.{apart}
use Rattle.promise.proofs.apart_stands.Goals as goal

pub returns : goal.returns
returns c = apart
