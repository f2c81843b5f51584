-- Memory after calls of events, and after the arrivals of a tick: it is accepted, and read as the fleet after them.
use Rattle.std.proofs.Common.{◌≡◌, ℕ, zero, suc, ◌+◌, Bool, true, false, cond, List, length, get_or, add-one, sym, refl, ap, ◌∙◌, subst, ⊎_elim}
use mathlib.Core.Path.{fun_ext}
use Rattle.std.proofs.lemmas.Bool.{cases_Bool, cond-true, cond-false, eq-eqb, ne_eqb}
use Rattle.rules.specs.Event.{Event, arrive, does, who, becomes, happens}
use Rattle.rules.specs.Memory.{FieldNumbers, field_in, memory_ok, shuttle_in, stored}
use Rattle.calls.proofs.Follow.{Holds, write_done}
use Rattle.turns.specs.Tick.{is_due, come, come_to, all_come}
use Rattle.promise.proofs.GoingOn.{not_done}
use Rattle.field.specs.Model.{numbers_in, field_of}
use Rattle.memory.specs.declared.hall.Hall.{Hall}
use Rattle.memory.specs.Halls.{Takes}
use Rattle.tick.specs.Tick.{called, come_in}
use Rattle.tick.specs.Coming.{CameIn}

module _ (lent : FieldNumbers) where
  -- a call that happens leaves what it writes, and one that does not leaves memory as it was
  pub called_is : (m : List ℕ) (e : Event) → does (field_in lent) (shuttle_in m) e ≡ true
      → called (field_in lent) m e ≡ stored m (who e) (becomes e (shuttle_in m (who e)))
  unfolding called
  called_is m e h = cond-true _ _ m h

  pub called_not : (m : List ℕ) (e : Event) → does (field_in lent) (shuttle_in m) e ≡ false → called (field_in lent) m e ≡ m
  unfolding called
  called_not m e h = cond-false _ (stored m (who e) (becomes e (shuttle_in m (who e)))) m h

  pub called_holds : (m : List ℕ) (e : Event) → memory_ok lent m ≡ true
      → Holds lent (called (field_in lent) m e) (happens (field_in lent) (shuttle_in m) e)
  called_holds m e ok =
      let f = field_in lent in
      let P : List ℕ → Type 0 = λ x. Holds lent x (happens f (shuttle_in m) e) in
      ⊎_elim (λ h. subst P (sym (called_is m e h)) (write_done lent m e ok h))
      (λ h. subst P (sym (called_not m e h)) (ok, λ j. ap (λ g. g j) (sym (not_done f (shuttle_in m) e h))))
      (cases_Bool (does f (shuttle_in m) e))

  module _ (m marks : List ℕ) where
    -- one shuttle more
    pub come_due : (k : ℕ) → is_due marks k ≡ true
        → come_in (field_in lent) m marks (suc k) ≡ called (field_in lent) (come_in (field_in lent) m marks k) (arrive k)
    unfolding come_in
    come_due k h = cond-true _ _ (come_in (field_in lent) m marks k) h

    pub come_not : (k : ℕ) → is_due marks k ≡ false → come_in (field_in lent) m marks (suc k) ≡ come_in (field_in lent) m marks k
    unfolding come_in
    come_not k h =
        cond-false _ (called (field_in lent) (come_in (field_in lent) m marks k) (arrive k)) (come_in (field_in lent) m marks k) h

    pub come_holds : memory_ok lent m ≡ true → (k : ℕ)
        → Holds lent (come_in (field_in lent) m marks k) (come_to (field_in lent) (shuttle_in m) marks k)
    unfolding come_in come_to come
    come_holds ok zero = (ok, λ j. refl)
    come_holds ok (suc k) =
        let f = field_in lent in
        let was : Holds lent (come_in f m marks k) (come_to f (shuttle_in m) marks k) = come_holds ok k in
        let here = called_holds (come_in f m marks k) (arrive k) was.0 in
        ⊎_elim
        (λ (h : is_due marks k ≡ true). rw h (here.0, λ j. here.1 j ∙ ap (λ g. happens f g (arrive k) j) (fun_ext was.1)))
        (λ (h : is_due marks k ≡ false). rw h was)
        (cases_Bool (is_due marks k))

    -- after all of them
    pub all_accepted : memory_ok lent m ≡ true → memory_ok lent (come_in (field_in lent) m marks (length lent.bays)) ≡ true
    all_accepted ok = (come_holds ok (length lent.bays)).0

    pub all_come_in : memory_ok lent m ≡ true
        → shuttle_in (come_in (field_in lent) m marks (length lent.bays)) ≡ all_come (field_in lent) (shuttle_in m) marks
    unfolding all_come field_in
    all_come_in ok = fun_ext (come_holds ok (length lent.bays)).1

-- a hall of the code after the arrivals of the first shuttles, one shuttle further
pub came_none : (h : Hall) (marks : List ℕ) → CameIn h h marks 0
unfolding come_in
came_none h marks = record { same_reference = refl; same_field = refl; come = refl }

module _ (was h : Hall) (marks : List ℕ) (k : ℕ) (so_far : CameIn was h marks k) where
  pub came_due : (now : Hall) (done : Bool) → get_or marks k 0 ≡ 1 → Takes h now (arrive k) done → CameIn was now marks (k + 1)
  unfolding is_due called
  came_due now done due t =
      let lent = numbers_in was.field in
      let f = field_of was.field in
      record {
        same_reference = t.same_reference ∙ so_far.same_reference;
        same_field = t.same_field ∙ so_far.same_field;
        come = t.left
            ∙ ap (λ b. cond b (stored h.memory.now (who (arrive k)) (becomes (arrive k) (shuttle_in h.memory.now (who (arrive k))))) h.memory.now) t.does
            ∙ ap (λ l. called (field_of l) h.memory.now (arrive k)) so_far.same_field
            ∙ ap (λ m. called f m (arrive k)) so_far.come
            ∙ sym (come_due lent was.memory.now marks k (eq-eqb _ _ due)) ∙ ap (come_in f was.memory.now marks) (sym (add-one k));
      }

  pub came_not : (get_or marks k 0 ≡ 1 → ⊥) → CameIn was h marks (k + 1)
  unfolding is_due
  came_not due =
      record {
        same_reference = so_far.same_reference;
        same_field = so_far.same_field;
        come = so_far.come ∙ sym (come_not (numbers_in was.field) was.memory.now marks k (ne_eqb _ _ due))
            ∙ ap (come_in (field_of was.field) was.memory.now marks) (sym (add-one k));
      }
