-- A shuttle at home needs no place for what is left.
use Rattle.std.proofs.Common.{◌∙◌, arith}
use Rattle.memory.proofs.Written.{home_is}
use Rattle.memory.proofs.write.write_home.Goals as goal

pub returns : goal.returns
returns c = λ f e. c.write_numbers.ensures ∙ rw (← e) (home_is f c.args.memory.now c.args.i (omega arith))
