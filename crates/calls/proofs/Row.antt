-- Each row of accepted events is that of some calls.
use Rattle.std.proofs.Common.{◌≡◌, ℕ, ◌*◌, true, List, [], ◌∷◌, length, replicate, refl, inl, inr, ⊎_elim}
use Rattle.std.proofs.lemmas.List.{length-replicate}
use Rattle.std.proofs.lemmas.Bool.{and_parts, cases_Bool}
use Rattle.rules.specs.Event.{Event, order, step, arrive, does, who, becomes}
use Rattle.rules.specs.Memory.{FieldNumbers, field_in, shuttle_in, event_ok, event_in, stored}
use Rattle.calls.specs.Call.{Says, Played, begun, more, kind_of, route_of, events_ok, RowIsPlayed}
use Rattle.calls.proofs.Refusal.{none_refusal}
use Rattle.calls.proofs.Follow.{follows, played_field}

-- one call more
play_on : (lent : FieldNumbers) (es : List Event) (kind i : ℕ) (r : List ℕ) → event_ok (length lent.bays) kind i r ≡ true
    → (m : List ℕ) × Played lent es m → (m : List ℕ) × Played lent (event_in kind i r ∷ es) m
unfolding Says
play_on lent es kind i r ok (m, played) =
    let e : Event = event_in kind i r in
    let none = none_refusal lent m kind i r (played_field lent es m played) (follows lent es m played).0 ok in
    ⊎_elim
    (λ h. (
      stored m (who e) (becomes e (shuttle_in m (who e))),
      more es m (stored m (who e) (becomes e (shuttle_in m (who e)))) kind i r 0 played none (inl (refl, h, refl)),
    ))
    (λ h. (m, more es m m kind i r 1 played none (inr (refl, h, refl))))
    (cases_Bool (does (field_in lent) (shuttle_in m) e))

pub row_is_played : RowIsPlayed
unfolding events_ok event_in kind_of route_of who
row_is_played lent [] field ok = (_, begun (replicate (260 * length lent.bays) 0) field (length-replicate (260 * length lent.bays) 0))
row_is_played lent (order i r ∷ es) field ok =
    let both = and_parts (event_ok (length lent.bays) 0 i r) (events_ok (length lent.bays) es) ok in
    play_on lent es 0 i r both.0 (row_is_played lent es field both.1)
row_is_played lent (step i ∷ es) field ok =
    let both = and_parts (event_ok (length lent.bays) 1 i []) (events_ok (length lent.bays) es) ok in
    play_on lent es 1 i [] both.0 (row_is_played lent es field both.1)
row_is_played lent (arrive i ∷ es) field ok =
    let both = and_parts (event_ok (length lent.bays) 2 i []) (events_ok (length lent.bays) es) ok in
    play_on lent es 2 i [] both.0 (row_is_played lent es field both.1)
