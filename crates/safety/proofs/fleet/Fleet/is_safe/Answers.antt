-- The sets of blockers are what the definition calls being in the way.
use Rattle.safety.proofs.Blocked.{safe_by_sets}
use Rattle.safety.proofs.fleet.Fleet.is_safe.Goals as goal

pub returns : goal.returns
returns c =
    safe_by_sets _ _ c.blockers.result.sets c.all_go.result c.blockers.ensures.blocked (rw c.blockers.ensures.count at c.all_go.ensures)
