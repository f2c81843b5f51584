-- There are as many places as its shuttles need.
use Rattle.std.proofs.Common.{length, ap, arith}
use Rattle.session.proofs.Led.{led_length, led_facts}
use Rattle.session.proofs.state.Session.shuttle.Goals as goal

pub read-requires : goal.read-requires
read-requires c =
    let s = c.args.self.now in
    record {
      there = omega (arith, led_length s.reached, ap length c.as_slice.ensures.value, c.requires);
      few = omega (arith, (led_facts s.reached).few, c.requires);
    }
