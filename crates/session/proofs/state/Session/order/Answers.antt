-- An order of a shuttle that isn't there is turned away.
use Rattle.std.proofs.Common.{◌≡◌, ◌≤◌, length, vec_items, Err, rules}
use Rattle.field.specs.declared.refusal.Refusal.TheVariants.{Event}
use Rattle.text.specs.declared.failure.Failure.TheVariants.{Refused}
use Rattle.session.proofs.Taking.{came_none}
use Rattle.session.proofs.state.Session.order.Goals as goal

pub returns-in_err-from : goal.returns-in_err-from
returns-in_err-from c =
    let past : length (vec_items c.args.self.now.shown.bays) ≤ c.args.shuttle = search rules in
    let turned : c.from_residual.result ≡ Err (Refused Event) = search rules in
    rw turned (came_none c.args.self.now c.args.shuttle _ past)
