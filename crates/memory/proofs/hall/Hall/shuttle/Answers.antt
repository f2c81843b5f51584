use Rattle.memory.proofs.Halls.{few, there}
use Rattle.memory.proofs.hall.Hall.shuttle.Goals as goal

pub read-requires : goal.read-requires
read-requires c = record { there = there c.args.self.now c.args.i c.requires; few = few c.args.self.now c.args.i c.requires }
