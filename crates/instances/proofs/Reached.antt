-- Memory in which a shuttle moves, has squares left, and another's step is not granted.
use Rattle.std.proofs.Common.{◌≡◌, ℕ, true, List, [], ◌∷◌, refl, ap}
use mathlib.Core.Path.{fun_ext}
use Rattle.rules.specs.Event.{Event, order, step, does}
use Rattle.rules.specs.Memory.{field_in, memory_ok, event_in, refusal}
use Rattle.calls.proofs.Refusal.{none_refusal}
use Rattle.calls.proofs.Follow.{follows}
use Rattle.calls.proofs.Row.{row_is_played}
use Rattle.instances.specs.Reach.{row_of_three, BusyIsReached}
use Rattle.calls.specs.Call.{kind_of, route_of, events_ok}
use Rattle.examples.proofs.Open.{rules}

-- both are given routes over the square between them, and shuttle 0 steps
abbrev row : List Event
row = step 0 ∷ order 1 (1 ∷ 2 ∷ []) ∷ order 0 (1 ∷ 0 ∷ []) ∷ []

-- there is no event of kind 3
wrong_event : (m : List ℕ) → memory_ok row_of_three m ≡ true → refusal row_of_three m 3 1 [] ≡ 3
unfolding rules
wrong_event m ok = rw ok

pub busy_is_reached : BusyIsReached
unfolding rules kind_of route_of events_ok
busy_is_reached =
    let w = row_is_played row_of_three row refl refl in
    let now = follows row_of_three row w.0 w.1 in (
      w.0,
      record {
        reached = (row, w.1);
        moves = ap (λ s. s.moving) (now.1 0);
        something_left = ap (λ s. s.route) (now.1 0);
        asked = none_refusal row_of_three w.0 1 1 [] refl now.0 refl;
        not_granted = ap (λ g. does (field_in row_of_three) g (event_in 1 1 [])) (fun_ext now.1);
        turned_away = wrong_event w.0 now.0;
      },
    )
