-- The proof that the contract asks for is the lemma `work_falls`.
use Rattle.promise.proofs.Home.{work_falls}
use Rattle.promise.proofs.work_falls_stands.Goals as goal

pub returns : goal.returns
returns c = work_falls
