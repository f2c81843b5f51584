-- The squares of a route that is taken are squares of the field.
use Rattle.std.proofs.Common.{sym, ◌∙◌}
use Rattle.rules.specs.Memory.{shuttle_in, field_in}
use Rattle.field.specs.Model.{field_of}
use Rattle.orders.proofs.Taken.{takes_over}
use Rattle.orders.proofs.orders.take_order.Goals as goal

pub write_order-requires-clause-over : goal.write_order-requires-clause-over
unfolding field_in
write_order-requires-clause-over c =
    let h = c.args.hall.now in
    takes_over (field_of h.field) (shuttle_in h.memory.now) c.args.i c.args.route.now (sym c.is_taken-taken.ensures ∙ c.if-taken.true)
