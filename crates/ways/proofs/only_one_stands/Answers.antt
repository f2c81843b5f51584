-- The law, from its proof.
use Rattle.ways.proofs.Only.{only_one}
use Rattle.ways.proofs.only_one_stands.Goals as goal

pub returns : goal.returns
returns c = only_one
