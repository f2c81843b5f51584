-- Memory that calls have led to keeps every promise, since every row of events does.
use Rattle.std.proofs.Common.{◌≡◌, ℕ, ◌*◌, ◌<◌, ◌≤◌, true, false, ltb, List, [], ◌∷◌, ◌++◌, length, get_or, sym, refl, ap, ◌∙◌, subst, inl, inr, ⊎_elim, lit≤}
use mathlib.Core.Path.{fun_ext}
use Rattle.std.proofs.lemmas.Bool.{both_ways}
use Rattle.rules.specs.Tests.{every, is_empty}
use Rattle.rules.specs.Field.{Field, sound}
use Rattle.rules.specs.Shuttle.{holds}
use Rattle.rules.specs.Safe.{Safe}
use Rattle.rules.specs.Event.{Event, order, step, arrive, does, who, becomes, after}
use Rattle.rules.specs.Memory.{FieldNumbers, field_in, shuttle_in, event_in, stored}
use Rattle.rules.proofs.Fields.{accepted}
use Rattle.promise.specs.Promise.{AllHome, Placed, Drives, nothing, then, no_order}
use Rattle.promise.proofs.GoingOn.{apart, always_safe, never_stuck, always_taken, always_placed}
use Rattle.promise.proofs.Home.{way_home, ends_home}
use Rattle.calls.specs.Call.{Says, Played, more, IsDone, Driven, here, on, KeepsPromises}
use Rattle.rules.proofs.Becomes.{route_squares, does_there}
use Rattle.calls.proofs.Refusal.{none_refusal, event_none}
use Rattle.calls.proofs.Follow.{follows, played_field}

-- the call for an event that happens after the row is answered: it happened
is_done : (lent : FieldNumbers) (es : List Event) (m : List ℕ) → Played lent es m → (kind i : ℕ) (r : List ℕ) → kind ≤ 2
    → i < length lent.bays → length r ≤ 256 → every (λ c. ltb c (lent.across * lent.down)) r ≡ true
    → does (field_in lent) (after (field_in lent) es) (event_in kind i r) ≡ true → IsDone lent m kind i r
is_done lent es m played kind i r k l short over h =
    let field = played_field lent es m played in
    let now = follows lent es m played in (
      none_refusal lent m kind i r field now.0 (event_none lent field kind i r k l short over),
      subst (λ g. does (field_in lent) g (event_in kind i r) ≡ true) (fun_ext (λ j. sym (now.1 j))) h,
    )

-- memory that the calls of a row of events have led to, by steps and arrivals from m
abbrev Comes : (lent : FieldNumbers) (m : List ℕ) → List Event → Type 0
Comes lent m es = (m₁ : List ℕ) × Driven lent m m₁ × Played lent es m₁

-- one call more
comes_on : (lent : FieldNumbers) (m : List ℕ) (es : List Event) (kind i : ℕ) → 1 ≤ kind → kind ≤ 2 → i < length lent.bays
    → does (field_in lent) (after (field_in lent) es) (event_in kind i []) ≡ true → Comes lent m es
    → Comes lent m (event_in kind i [] ∷ es)
unfolding Says every
comes_on lent m es kind i low high l h (m₁, driven, played) =
    let e = event_in kind i [] in
    let done = is_done lent es m₁ played kind i [] high l (lit≤ tt) refl h in
    let m₂ : List ℕ = stored m₁ (who e) (becomes e (shuttle_in m₁ (who e))) in
    let says : Says 0 (field_in lent) m₁ e 0 m₂ = inl (refl, done.1, refl) in
    (m₂, on m₁ m₂ kind i driven low done says, more es m₁ m₂ kind i [] 0 played done.0 says)

-- each event of a row of steps and arrivals that happen has its call
comes : (lent : FieldNumbers) (es : List Event) (m : List ℕ) → Played lent es m → (ds : List Event) → Drives (field_in lent) es ds
    → Comes lent m (ds ++ es)
unfolding no_order who field_in event_in
comes lent es m played ds nothing = (m, here, played)
comes lent es m played ds (then e ds₀ free h before) = last e free h (does_there (field_in lent) _ e h) (comes lent es m played ds₀ before)
  where
    last : (e : Event) → no_order e ≡ true → does (field_in lent) (after (field_in lent) (ds₀ ++ es)) e ≡ true
        → who e < (field_in lent).shuttles → Comes lent m (ds₀ ++ es) → Comes lent m (e ∷ (ds₀ ++ es))
    last (order i r) free h l c = absurd (both_ways false refl free)
    last (step i) free h l c = comes_on lent m (ds₀ ++ es) 1 i (lit≤ tt) (lit≤ tt) l h c
    last (arrive i) free h l c = comes_on lent m (ds₀ ++ es) 2 i (lit≤ tt) (lit≤ tt) l h c

pub keeps_promises : KeepsPromises
unfolding field_in event_in does every
keeps_promises lent m (es, played) =
    let f : Field = field_in lent in
    let can : sound f ≡ true = (accepted lent (played_field lent es m played)).is_sound in
    let now : (j : ℕ) → shuttle_in m j ≡ after f es j = (follows lent es m played).1 in
    record {
      apart = λ i j c l k ne p q.
          apart f es i j c can l k ne (subst (λ s. holds s c ≡ true) (now i) p) (subst (λ s. holds s c ≡ true) (now j) q);
      all_safe = subst (Safe (length lent.bays)) (fun_ext (λ j. sym (now j))) (always_safe f es can);
      goes_on = λ i l p.
          ⊎_elim (λ w. inl (w.0, w.1, ap (λ s. s.moving) (now w.0) ∙ w.2))
          (λ w. inr (w.0, w.1, is_done lent es m played 1 w.0 [] (lit≤ tt) w.1 (lit≤ tt) refl w.2))
          (never_stuck f es i can l (subst (λ s. is_empty s.route ≡ false) (now i) p));
      comes_home =
          let way = way_home f es can in
          let end = comes lent es m played way.0 way.1 in
          (end.0, end.1, λ i l. (follows lent (way.0 ++ es) end.0 end.2).1 i ∙ way.2 i l);
      ends_home = λ no_step no_arrival.
          let back = fun_ext (λ j. sym (now j)) in
          subst (AllHome f) back
          (ends_home f es can (λ i l. subst (λ g. does f g (step i) ≡ false) (fun_ext now) (no_step i l))
          (λ i l. subst (λ g. does f g (arrive i) ≡ false) (fun_ext now) (no_arrival i l)));
      takes_routes = λ i r l p q short good.
          is_done lent es m played 0 i r (lit≤ tt) l short (route_squares f i (get_or lent.bays i 0) r good)
          (always_taken f es i r can l (subst (λ s. s.moving ≡ false) (now i) p) (subst (λ s. is_empty s.route ≡ true) (now i) q) short good).0;
      placed = λ i l. subst (Placed f i) (sym (now i)) (always_placed f es i can l);
    }
