-- Never stuck: somebody that is not done is blocked by nobody.
use Rattle.agents.proofs.Going.{free_one}
use Rattle.agents.proofs.some_one_is_free.Goals as goal

pub returns : goal.returns
returns c = λ n w k done f i h. free_one done f h
