-- What is written stays on the field.
use Rattle.memory.proofs.Halls.{there, room, some, steps_fit, written}
use Rattle.memory.proofs.hall.Hall.write_step.Goals as goal

pub write_step-requires : goal.write_step-requires
write_step-requires c =
    let h = c.args.self.now in
    let i = c.args.i in
    let l = c.requires.there in record { there = there h i l; some = some h i l c.requires.some; room = room h i l }

pub invariant_of-self : goal.invariant_of-self
invariant_of-self c =
    let h = c.args.self.now in
    let i = c.args.i in
    let l = c.requires.there in
    rw c.write_step.ensures (record { accepted = written h i l _ (steps_fit h i l) })
