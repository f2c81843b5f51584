-- An event that is accepted is one of a shuttle that is there, and short.
use Rattle.std.proofs.Common.{length, sym, ◌∙◌}
use Rattle.hall.proofs.Events.{accepted_is}
use Rattle.hall.proofs.calling.call.Goals as goal

pub take_event-requires : goal.take_event-requires
take_event-requires c =
    let is = accepted_is (length c.args.hall.now.field.bays.now) c.args.shuttle c.args.event (sym c.is_of.ensures ∙ c.if-not-is_of.false) in
    record { there = is.0; short = is.1 }
