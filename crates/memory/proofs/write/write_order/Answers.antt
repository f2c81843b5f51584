-- The part that was lent on holds the route.
use Rattle.std.proofs.Common.{◌+◌, ◌*◌, length, arith}
use borrow.Rule.Slice.PartMut.{Post-is}
use Rattle.rules.specs.Shuttle.{ordered}
use Rattle.rules.specs.Memory.{shuttle_in}
use Rattle.memory.proofs.Writing.{stored_is}
use Rattle.memory.proofs.write.write_order.Goals as goal

pub returns : goal.returns
unfolding ordered shuttle_in
returns c =
    let m = c.args.memory.now in
    let from = 260 * c.args.i + 4 in
    let rest = Post-is from (from + length c.args.route.now) c.write_standing.new.memory (omega arith) in
    let is = stored_is m c.args.i (ordered (shuttle_in m c.args.i) c.args.route.now) (omega arith) in cc
