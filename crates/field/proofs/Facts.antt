-- What is known of a field of the code, since it is accepted.
use Rattle.std.proofs.Common.{◌≡◌, ◌*◌, ◌≤◌, length}
use Rattle.rules.proofs.Fields.{Accepted, accepted}
use Rattle.field.specs.declared.field.Field.{Field as Lent}
use Rattle.field.specs.Model.{numbers_in}

pub facts : (f : Lent) → Accepted (numbers_in f)
facts f = accepted (numbers_in f) f.accepted

pub long : (f : Lent) → length f.walls.now ≡ f.across * f.down
long f = (facts f).walls_long

pub narrow : (f : Lent) → f.across ≤ 64
narrow f = (facts f).across_most
