-- A ring of six is not safe, and is not closed: computed.
use Rattle.std.proofs.Common.{refl}
use Rattle.examples.proofs.Open.{rules}
use Rattle.examples.proofs.ring_is_not_safe.Goals as goal

pub returns : goal.returns
unfolding rules
returns c =
    record {
      on_a_field = refl;
      with_routes = refl;
      not_safe = refl;
      any_five_run = refl;
      safe_before = refl;
      free_square = refl;
      not_closed = refl;
    }
