-- Writing one shuttle changes that shuttle and nothing else.
use Rattle.std.proofs.Common.{◌+◌, ◌*◌, ◌≤◌, length, arith}
use Rattle.rules.proofs.Stored.{stored_own, stored_other, stored_length, stored_rest}
use Rattle.calls.proofs.stored_is_read_stands.Goals as goal

pub returns : goal.returns
returns c = λ m n i s e l short.
    let room : 260 * i + 260 ≤ length m = omega arith in
    record {
      its_own = stored_own m i s room short;
      others = stored_other m i s room short;
      same_length = stored_length m i s room short;
      rest = stored_rest m i s room short;
    }
