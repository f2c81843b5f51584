-- As many bits as there are shuttles.
use Rattle.std.proofs.Common.{◌-◌, ap, ◌∙◌, arith}
use Rattle.std.proofs.lemmas.Nat.{one_shl}
use Rattle.safety.specs.Masks.{has}
use Rattle.safety.proofs.Masks.{has_below}
use Rattle.safety.proofs.taking.Blockers.everybody.Goals as goal

pub returns : goal.returns
returns c = λ j.
    let n = c.args.self.now.count in
    let few = c.args.self.now.few in ap (λ a. has (a - 1) j) (one_shl n 32 (omega arith)) ∙ has_below n j
