-- The best of the shuttles so far.
use Rattle.std.proofs.Common.{◌≡◌, ◌<◌}
use Rattle.std.specs.Option.{ForSome}
use Rattle.rules.specs.Field.{Field}
use Rattle.turns.specs.Tick.{chosen_to}
use Rattle.safety.specs.Fleets.{fleet_of}
use Rattle.tick.specs.Answer.{whose_of}
use Rattle.tick.proofs.choosing.choose.Given as goal

abbrev pub invariant-loop-i : goal.invariant-loop-i
invariant-loop-i l = record {
  below : ForSome l.best (λ b. b < l.i);
  best : (f : Field) → f.shuttles ≡ l.fleet.count
      → l.best ≡ whose_of f.shuttles (chosen_to f (fleet_of l.fleet.shuttles l.fleet.memory.now) l.waits l.i);
}
