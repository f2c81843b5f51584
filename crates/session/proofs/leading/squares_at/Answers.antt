-- The number of each square.
use Rattle.std.proofs.Common.{rules}
use borrow.Author.Tests.{tests}
use Rattle.field.specs.Model.{field_of}
use Rattle.session.specs.Ways.{square_at}
use Rattle.session.proofs.leading.squares_at.Goals as goal

pub returns : goal.returns
returns c = c.gather.ensures (square_at (field_of c.args.field.now)) (λ x r k. search (rules, tests))
