-- What is written stays on the field.
use Rattle.rules.specs.Shuttle.{ordered}
use Rattle.memory.proofs.Halls.{there, fits, written}
use Rattle.memory.proofs.hall.Hall.write_order.Goals as goal

pub write_order-requires-clause-there : goal.write_order-requires-clause-there
write_order-requires-clause-there c = there c.args.self.now c.args.i c.requires.there

pub invariant_of-self : goal.invariant_of-self
unfolding ordered
invariant_of-self c =
    let f = fits c.args.self.now c.args.i c.requires.there in
    rw c.write_order.ensures
    (record {
      accepted = written c.args.self.now c.args.i c.requires.there _
          (record { short = c.requires.short; on = f.on; from = f.on; over = c.requires.over });
    })
