-- What is a field: computed.
use Rattle.std.proofs.Common.{refl}
use Rattle.examples.proofs.Open.{rules}
use Rattle.examples.proofs.some_fields.Goals as goal

pub returns : goal.returns
unfolding rules
returns c =
    record {
      smallest = refl;
      wide = refl;
      deep = refl;
      none_across = refl;
      none_down = refl;
      too_wide = λ d ws bs. refl;
      too_deep = λ ws bs. refl;
      mark_missing = refl;
      mark_too_many = refl;
      other_mark = refl;
      seventeen = refl;
      bay_on_a_wall = refl;
      bay_outside = refl;
      bay_of_two = refl;
    }
