-- The proof that the contract asks for is the lemma `refused_when`.
use Rattle.promise.proofs.GoingOn.{refused_when}
use Rattle.promise.proofs.refused_when_stands.Goals as goal

pub returns : goal.returns
returns c = refused_when
