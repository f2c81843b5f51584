-- The law, from its proof.
use Rattle.ways.proofs.Only.{one_way}
use Rattle.ways.proofs.one_way_stands.Goals as goal

pub returns : goal.returns
returns c = one_way
