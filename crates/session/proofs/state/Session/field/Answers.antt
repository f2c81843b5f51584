-- The field of a hall that is played is accepted.
use Rattle.session.proofs.Led.{led_field}
use Rattle.session.proofs.state.Session.field.Goals as goal

pub lent-requires : goal.lent-requires
lent-requires c = led_field c.args.self.now.reached
