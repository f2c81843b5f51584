-- The mark is 1 exactly if it moves.
use Rattle.std.proofs.Common.{◌≡◌, Bool, true, false, refl}
use mir.Val.{bool_byte}
use Rattle.rules.specs.Memory.{mark}
use Rattle.memory.proofs.write.write_head_at.Goals as goal

mark_is : (b : Bool) → bool_byte b ≡ mark b
unfolding mark
mark_is true = refl
mark_is false = refl

pub returns : goal.returns
returns c = rw (c.from.ensures, mark_is)
