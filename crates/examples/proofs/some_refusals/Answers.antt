-- What is an event, and which refusal comes first: computed.
use Rattle.std.proofs.Common.{refl}
use Rattle.examples.proofs.Open.{rules}
use Rattle.examples.proofs.some_refusals.Goals as goal

pub returns : goal.returns
unfolding rules
returns c =
    record {
      arrival = refl;
      no_kind = refl;
      not_there = refl;
      last_square = refl;
      no_square = refl;
      longest = refl;
      too_long = refl;
      field_first = refl;
      memory_next = refl;
      event_last = refl;
      not_refused = refl;
    }
