-- The ways of all letters.
use Rattle.std.proofs.Common.{rules, tests}
use Rattle.field.specs.Directions.{direction_of}
use Rattle.text.proofs.ways.read_ways.Goals as goal

pub returns : goal.returns
returns c = c.gather.ensures direction_of (λ x r k. search (rules, tests))
