-- The proof that the contract asks for is the lemma `always_safe`.
use Rattle.promise.proofs.GoingOn.{always_safe}
use Rattle.promise.proofs.always_safe_stands.Goals as goal

pub returns : goal.returns
returns c = always_safe
