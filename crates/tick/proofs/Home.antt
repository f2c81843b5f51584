-- Coming home by ticks over memory, since each shuttle in memory is that of a tick over fleets.
use Rattle.std.proofs.Common.{◌≡◌, ℕ, suc, ◌*◌, ◌≤◌, max, length, ◌∙◌, subst}
use mathlib.Core.Path.{fun_ext}
use Rattle.rules.specs.Event.{after}
use Rattle.rules.specs.Memory.{field_in, shuttle_in}
use Rattle.rules.proofs.Fields.{accepted}
use Rattle.promise.specs.Promise.{sum_to, squares_left}
use Rattle.calls.proofs.Follow.{follows, played_field}
use Rattle.turns.specs.Tick.{tick}
use Rattle.turns.specs.Home.{AnyTick}
use Rattle.turns.proofs.Home.{home_in_time, tick_any}
use Rattle.tick.specs.Tick.{TickSays}
use Rattle.tick.specs.Home.{MemoryComesHome}

pub memory_comes_home : MemoryComesHome
unfolding TickSays field_in
memory_comes_home lent memory waits marks answer late r c t h =
    let f = field_in lent in
    let es = r.begins.0 in
    let played = r.begins.1 in
    let start : shuttle_in (memory 0) ≡ after f es = fun_ext (follows lent es (memory 0) played).1 in
    home_in_time f es (λ t. shuttle_in (memory t)) marks (λ t. (tick f (shuttle_in (memory t)) (waits t) (marks t)).whose) late
    (accepted lent (played_field lent es (memory 0) played)).is_sound start each c t
    (subst (λ g. suc (sum_to squares_left g (length lent.bays)) * max late 1 ≤ t) start h)
  where
    each : (t : ℕ) → AnyTick (field_in lent) (shuttle_in (memory t)) (marks t)
        (tick (field_in lent) (shuttle_in (memory t)) (waits t) (marks t)).whose (shuttle_in (memory (suc t)))
    each t =
        let any = tick_any (field_in lent) (shuttle_in (memory t)) (waits t) (marks t) in
        record { made = fun_ext (r.made t).shuttles ∙ any.made; right = any.right }
