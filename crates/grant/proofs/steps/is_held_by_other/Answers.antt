-- Each shuttle but i is asked.
use Rattle.std.proofs.Common.{rules, ℕ, not, ◌&&◌, eqb, ◌∙◌, ap, zero-add}
use Rattle.std.proofs.lemmas.Iterator.{YieldsList-from_slice}
use Rattle.std.proofs.lemmas.Iterator.Search.{any_from_yields_List}
use Rattle.std.proofs.lemmas.Iterator.Consumers.{YieldsList-from_enumerate, YieldsList-at}
use borrow.Author.Tests.{tests}
use Rattle.rules.specs.Shuttle.{holds, held_by_other}
use Rattle.memory.specs.declared.shuttle.Shuttle.{Shuttle as Kept}
use Rattle.memory.specs.Shuttles.{nobody, shuttle_of}
use Rattle.rules.specs.Tests.{any_to}
use Rattle.rules.proofs.Tests.{any_to_like}
use Rattle.safety.specs.Fleets.{fleet_of}
use Rattle.safety.proofs.Fitting.{item}
use Rattle.grant.proofs.Listed.{any_listed}
use Rattle.grant.proofs.steps.is_held_by_other.Goals as goal

pub returns : goal.returns
unfolding held_by_other
returns c =
    let f = c.args.fleet.now in
    let listed = c.shuttles.ensures in
    let holding = λ (j : ℕ). not (eqb c.args.i j) && holds (fleet_of f.shuttles f.memory.now j) c.args.square in
    any_from_yields_List (λ (p : ℕ × Kept). not (eqb c.args.i p.0) && holds (shuttle_of f.memory.now p.1) c.args.square) _ _ _ c.any.ensures.ran
    (YieldsList-from_enumerate (YieldsList-at c.enumerate.ensures.source (YieldsList-from_slice c.shuttles.result.now cc)) c.enumerate.ensures.count)
    (λ x b q k. search (rules, tests))
    ∙ any_listed _ c.shuttles.result.now nobody 0
    ∙ any_to_like _ holding _ (λ j l. let k = item f _ listed.long listed.first j l in rw (k.is, zero-add))
    ∙ ap (any_to holding) listed.long
