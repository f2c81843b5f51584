-- What is written stays on the field.
use Rattle.rules.specs.Shuttle.{arrived}
use Rattle.memory.proofs.Halls.{there, room, fits, written}
use Rattle.memory.proofs.hall.Hall.write_arrival.Goals as goal

pub write_arrival-requires : goal.write_arrival-requires
write_arrival-requires c =
    let h = c.args.self.now in record { there = there h c.args.i c.requires; room = room h c.args.i c.requires }

pub invariant_of-self : goal.invariant_of-self
unfolding arrived
invariant_of-self c =
    let f = fits c.args.self.now c.args.i c.requires in
    rw c.write_arrival.ensures
    (record {
      accepted = written c.args.self.now c.args.i c.requires _
          (record { short = f.short; on = f.on; from = f.on; over = f.over });
    })
