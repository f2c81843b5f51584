-- The answer of a tick, as a number, is small.
use Rattle.capi.proofs.TickNumbers.{tick_fits}
use Rattle.capi.proofs.ticks.tick.Goals as goal

pub number_of-requires : goal.number_of-requires
number_of-requires c = tick_fits _ _ _ _ _ _ c.tick-answer.result c.tick-answer.ensures.answers
