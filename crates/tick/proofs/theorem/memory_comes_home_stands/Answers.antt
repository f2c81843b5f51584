-- The statement is proved among the lemmas.
use Rattle.tick.proofs.Home.{memory_comes_home}
use Rattle.tick.proofs.theorem.memory_comes_home_stands.Goals as goal

pub returns : goal.returns
returns c = memory_comes_home
