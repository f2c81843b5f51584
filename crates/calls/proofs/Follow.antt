-- What a call leaves is accepted and is what the event makes of the hall; so memory follows the row of events.
use Rattle.std.proofs.Common.{◌≡◌, ℕ, zero, suc, ◌+◌, ◌*◌, ◌<◌, ◌≤◌, true, eqb, List, length, take, drop, sym, refl, ap, ◌∙◌, subst, inl, inr, ⊎_elim, arith, lit≤}
use mathlib.Core.Path.{fun_ext}
use Rattle.std.proofs.lemmas.List.{get_or_past}
use Rattle.std.proofs.lemmas.Bool.{and_parts, and_from, cases_eq, cases_lt, cond-true, cond-false, eq-eqb, ne_eqb, ltb-true}
use Rattle.rules.specs.Tests.{every}
use Rattle.rules.specs.Field.{Field, free_square, sound}
use Rattle.rules.specs.Shuttle.{Fleet, put, at_home}
use Rattle.rules.specs.Event.{Event, does, who, becomes, happens, after}
use Rattle.rules.specs.Memory.{FieldNumbers, field_in, field_ok, shuttle_in, shuttle_ok, memory_ok, event_in, stored, started}
use Rattle.rules.proofs.Tests.{every_to_from}
use Rattle.rules.proofs.Fields.{sound_tells, accepted}
use Rattle.rules.proofs.Stored.{stored_length, stored_put}
use Rattle.rules.proofs.Memory.{Fits, ok_room, ok_fits, stored_ok, accepted_memory, stored_accepted, stored_reads}
use Rattle.promise.proofs.GoingOn.{done, not_done}
use Rattle.calls.specs.Call.{Says, Played, begun, more, refused, StaysAccepted, Follows}
use Rattle.rules.proofs.Becomes.{does_there, becomes_fits}
use Rattle.calls.proofs.Refusal.{refusal_none}

-- memory that is accepted, and of which shuttle j is read as g j
abbrev pub Holds : (lent : FieldNumbers) (m : List ℕ) → Fleet → Type 0
Holds lent m g = (memory_ok lent m ≡ true) × ((j : ℕ) → shuttle_in m j ≡ g j)

-- writing what an event that happens makes of its shuttle
pub write_done : (lent : FieldNumbers) (m : List ℕ) (e : Event) → memory_ok lent m ≡ true
    → does (field_in lent) (shuttle_in m) e ≡ true
    → Holds lent (stored m (who e) (becomes e (shuttle_in m (who e)))) (happens (field_in lent) (shuttle_in m) e)
unfolding field_in
write_done lent m e ok h =
    let there = does_there (field_in lent) (shuttle_in m) e h in
    let fits = becomes_fits (field_in lent) (shuttle_in m) e h (ok_fits _ m (who e) ((accepted_memory lent m ok).each (who e) there)) in (
      stored_accepted lent m ok (who e) _ there fits.on fits.from fits.over fits.short,
      λ j. stored_reads lent m ok (who e) _ there fits.short j ∙ ap (λ g. g j) (sym (done (field_in lent) (shuttle_in m) e h)),
    )

pub stays_accepted : StaysAccepted
unfolding Says
stays_accepted lent m kind i r n m₁ none (inl h) =
    let was = refusal_none lent m kind i r none in
    let P : List ℕ → Type 0 = λ x. Holds lent x (happens (field_in lent) (shuttle_in m) (event_in kind i r)) in
    subst P (sym h.2) (write_done lent m (event_in kind i r) was.1 h.1)
stays_accepted lent m kind i r n m₁ none (inr h) =
    let was = refusal_none lent m kind i r none in
    let P : List ℕ → Type 0 = λ x. Holds lent x (happens (field_in lent) (shuttle_in m) (event_in kind i r)) in
    subst P (sym h.2) (was.1, λ j. ap (λ g. g j) (sym (not_done (field_in lent) (shuttle_in m) (event_in kind i r) h.1)))

-- a bay is a square
bay_square : (f : Field) → sound f ≡ true → (i : ℕ) → i < f.shuttles → f.bay i < f.across * f.down
unfolding free_square
bay_square f h i l = ltb-true _ _ (and_parts _ _ ((sound_tells f h).bay_free i l)).0

-- a shuttle at home fits
home_fits : (f : Field) → sound f ≡ true → (i : ℕ) → i < f.shuttles → Fits (f.across * f.down) (at_home f i)
unfolding at_home every
home_fits f h i l = record { short = lit≤ tt; on = bay_square f h i l; from = bay_square f h i l; over = refl }

-- past the end of memory, and past the bays, a shuttle is read as one at home on square 0
past_home : (lent : FieldNumbers) (m : List ℕ) (j : ℕ) → length m ≤ 260 * j → length lent.bays ≤ j → shuttle_in m j ≡ at_home (field_in lent) j
unfolding shuttle_in at_home field_in
past_home lent m j p q =
    let none = get_or_past lent.bays j 0 q in
    let left = get_or_past m (260 * j + 3) 0 (omega arith) in
    λ t.
    record {
      at = (get_or_past m (260 * j) 0 p ∙ sym none) t;
      moving = eqb (get_or_past m (260 * j + 1) 0 (omega arith) t) 1;
      behind = (get_or_past m (260 * j + 2) 0 (omega arith) ∙ sym none) t;
      route = take (left t) (drop (260 * j + 4) m);
    }

-- the first k shuttles are written at home
record Begun (f : Field) (k : ℕ) (m m₁ : List ℕ) : Type 0 where
  as_long : length m₁ ≡ length m
  each_ok : (j : ℕ) → j < k → shuttle_ok (f.across * f.down) m₁ j ≡ true
  each_home : (j : ℕ) → j < k → shuttle_in m₁ j ≡ at_home f j

started_is : (f : Field) (k : ℕ) (m : List ℕ) → sound f ≡ true → k ≤ f.shuttles → 260 * f.shuttles ≤ length m → Begun f k m (started f k m)
unfolding started put
started_is f zero m h l len = record { as_long = refl; each_ok = λ j b. absurd (omega arith); each_home = λ j b. absurd (omega arith) }
started_is f (suc k) m h l len =
    let was = started_is f k m h (omega arith) len in
    let sq = f.across * f.down in
    let m₁ = started f k m in
    let fits = home_fits f h k (omega arith) in
    let room : 260 * k + 260 ≤ length m₁ = omega (arith, was.as_long) in
    let before : (j : ℕ) → j < suc k → (j ≡ k → ⊥) → j < k = λ j b ne. omega arith in
    record {
      as_long = stored_length m₁ k (at_home f k) room fits.short ∙ was.as_long;
      each_ok = λ j b. stored_ok sq m₁ k (at_home f k) room fits j (λ ne. was.each_ok j (before j b ne));
      each_home = λ j b.
          stored_put m₁ k (at_home f k) room fits.short j (λ ne. ok_room sq m₁ j (was.each_ok j (before j b ne)))
          ∙ ⊎_elim (λ (e : j ≡ k). cond-true _ _ _ (eq-eqb j k e) ∙ ap (at_home f) (sym e))
          (λ ne. cond-false _ _ _ (ne_eqb j k ne) ∙ was.each_home j (before j b ne)) (cases_eq j k);
    }

pub started_holds : (lent : FieldNumbers) (m : List ℕ) → field_ok lent ≡ true → length m ≡ 260 * length lent.bays
    → Holds lent (started (field_in lent) (length lent.bays) m) (at_home (field_in lent))
unfolding field_in memory_ok
started_holds lent m ok len =
    let all = started_is (field_in lent) (length lent.bays) m (accepted lent ok).is_sound (omega arith) (omega arith) in (
      and_from _ _ (eq-eqb _ _ (all.as_long ∙ len)) (every_to_from _ (length lent.bays) all.each_ok),
      λ j. ⊎_elim (λ l. all.each_home j l) (λ l. past_home lent _ j (omega (arith, all.as_long)) l) (cases_lt j (length lent.bays)),
    )

pub follows : Follows
unfolding after Says
follows lent es m (begun m₀ ok len) = started_holds lent m₀ ok len
follows lent es m (more es₀ m₀ m₁ kind i r n before none says) =
    let was = follows lent es₀ m₀ before in
    let now = stays_accepted lent m₀ kind i r n m₁ none says in
    (now.0, λ j. now.1 j ∙ ap (λ g. happens (field_in lent) g (event_in kind i r) j) (fun_ext was.1))
follows lent es m (refused es₀ m₀ m₁ kind i r k n before some says) =
    let P : List ℕ → Type 0 = λ x. Holds lent x (after (field_in lent) es₀) in
    subst P (sym says.1) (follows lent es₀ m₀ before)

-- the field of calls that led somewhere is accepted
pub played_field : (lent : FieldNumbers) (es : List Event) (m : List ℕ) → Played lent es m → field_ok lent ≡ true
played_field lent es m (begun m₀ ok len) = ok
played_field lent es m (more es₀ m₀ m₁ kind i r n before none says) = played_field lent es₀ m₀ before
played_field lent es m (refused es₀ m₀ m₁ kind i r k n before some says) = played_field lent es₀ m₀ before
