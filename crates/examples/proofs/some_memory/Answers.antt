-- What is memory, and how it is read and written: computed.
use Rattle.std.proofs.Common.{refl}
use Rattle.examples.proofs.Open.{rules}
use Rattle.examples.proofs.some_memory.Goals as goal

pub returns : goal.returns
unfolding rules
returns c =
    record {
      is_read = refl;
      is_accepted = refl;
      next_one = refl;
      other_mark = refl;
      outside = refl;
      behind_outside = refl;
      left_outside = refl;
      too_much_left = refl;
      most_left = refl;
      one_shuttle = refl;
      too_short = refl;
      is_written = refl;
    }
