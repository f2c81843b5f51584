-- The answer is the entry's, as a number.
use Rattle.std.proofs.Common.{◌≡◌, arith}
use Rattle.hall.specs.Answer.{number}
use Rattle.capi.proofs.Numbers.{call_small}
use Rattle.capi.proofs.happen.Goals as goal

pub returns : goal.returns
returns c =
    let k = c.happen.ensures.answered in
    let small = call_small _ _ _ _ _ _ _ _ _ k.says in
    let is : c.into.result ≡ number c.happen.result = omega (arith, c.into.ensures) in rw is k
