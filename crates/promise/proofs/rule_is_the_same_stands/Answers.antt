-- The proof that the contract asks for is the lemma `rule_is_the_same`.
use Rattle.promise.proofs.Shuttles.{rule_is_the_same}
use Rattle.promise.proofs.rule_is_the_same_stands.Goals as goal

pub returns : goal.returns
returns c = rule_is_the_same
