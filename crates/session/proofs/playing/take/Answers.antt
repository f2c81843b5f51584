-- What the call answers and leaves.
use Rattle.std.proofs.Common.{List, ℕ, subst, arith}
use Rattle.field.specs.Model.{numbers_in}
use Rattle.hall.specs.Event.{event_of}
use Rattle.session.specs.Played.{Taken}
use Rattle.session.proofs.Taking.{taken}
use Rattle.session.proofs.playing.take.Goals as goal

pub returns : goal.returns
returns c =
    let a = c.args in
    let e = event_of a.shuttle a.event in
    subst (λ (left : List ℕ). Taken (numbers_in a.field) a.memory.now e c.call.result left) (grind arith)
    (taken _ c.call.new.hall e c.call.result c.call.ensures.called)
