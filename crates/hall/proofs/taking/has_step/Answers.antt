-- The fleet that is read is the one of memory.
use Rattle.std.proofs.Common.{sym, ap, ◌∙◌}
use mathlib.Core.Path.{fun_ext}
use Rattle.rules.specs.Event.{grants}
use Rattle.rules.specs.Memory.{field_in}
use Rattle.field.specs.Model.{field_of}
use Rattle.safety.specs.Fleets.{fleet_of}
use Rattle.hall.proofs.taking.has_step.Goals as goal

pub returns : goal.returns
unfolding field_in
returns c =
    let f = field_of c.args.hall.now.field in
    c.is_granted.ensures f (sym c.read.ensures.count)
    ∙ ap (λ g. grants f g c.args.i) (ap (fleet_of c.read.result.shuttles) c.read.ensures.same ∙ fun_ext c.read.ensures.reads)
