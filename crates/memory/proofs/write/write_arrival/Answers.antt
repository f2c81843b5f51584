use Rattle.std.proofs.Common.{◌∙◌}
use Rattle.memory.proofs.Written.{arrival_is}
use Rattle.memory.proofs.write.write_arrival.Goals as goal

pub returns : goal.returns
returns c = c.write_standing.ensures ∙ arrival_is c.args.memory.now c.args.i c.requires.there c.requires.room
