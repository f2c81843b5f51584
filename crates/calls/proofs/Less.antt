-- A call that is answered 'it happened' leaves less to go: a step one square less, a step or an arrival one event less.
use Rattle.std.proofs.Common.{◌≡◌, ℕ, zero, suc, ◌≤◌, true, List, length, sym, refl, subst, inl, inr, arith}
use mathlib.Core.Path.{fun_ext}
use Rattle.rules.specs.Event.{does, happens}
use Rattle.rules.specs.Memory.{FieldNumbers, field_in, shuttle_in, event_in, refusal}
use Rattle.promise.specs.Promise.{no_order, sum_to, squares_left, events_left}
use Rattle.promise.proofs.Home.{granted_less, event_falls}
use Rattle.calls.specs.Call.{Says, StepLeavesLess, EventLeavesLess}
use Rattle.calls.proofs.Follow.{stays_accepted}

-- the event of such a call happens, and memory is what it makes of the hall
was_done : (lent : FieldNumbers) (m : List ℕ) (kind i : ℕ) (r m₁ : List ℕ) → refusal lent m kind i r ≡ 0
    → Says 0 (field_in lent) m (event_in kind i r) 0 m₁
    → (does (field_in lent) (shuttle_in m) (event_in kind i r) ≡ true)
    × (happens (field_in lent) (shuttle_in m) (event_in kind i r) ≡ shuttle_in m₁)
unfolding Says
was_done lent m kind i r m₁ none (inl h) = (h.1, sym (fun_ext (stays_accepted lent m kind i r 0 m₁ none (inl h)).1))
was_done lent m kind i r m₁ none (inr h) = absurd (omega arith)

pub step_leaves_less : StepLeavesLess
unfolding field_in event_in does
step_leaves_less lent m i r m₁ none says =
    let w = was_done lent m 1 i r m₁ none says in
    subst (λ g. suc (sum_to squares_left g (length lent.bays)) ≡ sum_to squares_left (shuttle_in m) (length lent.bays)) w.1
    (granted_less (field_in lent) (shuttle_in m) i w.0)

gives_no_order : (kind i : ℕ) (r : List ℕ) → 1 ≤ kind → no_order (event_in kind i r) ≡ true
unfolding no_order event_in
gives_no_order zero i r l = absurd (omega arith)
gives_no_order (suc zero) i r l = refl
gives_no_order (suc (suc k)) i r l = refl

pub event_leaves_less : EventLeavesLess
unfolding field_in
event_leaves_less lent m kind i r m₁ l none says =
    let w = was_done lent m kind i r m₁ none says in
    subst (λ g. suc (sum_to events_left g (length lent.bays)) ≡ sum_to events_left (shuttle_in m) (length lent.bays)) w.1
    (event_falls (field_in lent) (shuttle_in m) (event_in kind i r) (gives_no_order kind i r l) w.0)
