-- What the entry answers: the refusals in their order, and what happens or not.
use Rattle.std.proofs.Common.{◌≡◌, ℕ, suc, ◌+◌, Bool, true, false, cond, List, length, Result, Ok, Err, sym, refl, ap, ◌∙◌, subst, inl, inr}
use Rattle.rules.specs.Event.{Event, does, who, becomes}
use Rattle.rules.specs.Memory.{FieldNumbers, field_in, field_ok, memory_ok, event_ok, event_in, shuttle_in, refusal, stored}
use Rattle.calls.specs.Call.{Says, Answered}
use Rattle.calls.proofs.Answered.{answered}
use Rattle.field.specs.declared.refusal.Refusal.{Refusal}
use Rattle.field.specs.Refusals.{number_of}
use Rattle.hall.specs.Answer.{done_of, number, refusal_of}

module _ (lent : FieldNumbers) (m : List ℕ) (kind i : ℕ) (r : List ℕ) where
  -- the refusals, one after the other
  pub refused_field : field_ok lent ≡ false → refusal lent m kind i r ≡ 1
  unfolding refusal
  refused_field f = rw f

  pub refused_memory : field_ok lent ≡ true → memory_ok lent m ≡ false → refusal lent m kind i r ≡ 2
  unfolding refusal
  refused_memory f k = rw (f, k)

  pub refused_event : field_ok lent ≡ true → memory_ok lent m ≡ true → event_ok (length lent.bays) kind i r ≡ false
      → refusal lent m kind i r ≡ 3
  unfolding refusal
  refused_event f k e = rw (f, k, e)

  -- what the entry answers, and the memory that it leaves
  pub record Call (answer : Result Bool Refusal) (left : List ℕ) : Type 0 where
    pub says : Answered lent m kind i r (number (done_of answer)) left
    pub why : refusal_of (done_of answer) ≡ refusal lent m kind i r

  -- a call that is turned away
  pub turned_away : (e : Refusal) (k : ℕ) → number_of e ≡ suc k → refusal lent m kind i r ≡ suc k → Call (Err e) m
  unfolding Says number refusal_of
  turned_away e k is why =
      let says : Says (suc k) (field_in lent) m (event_in kind i r) (16 + number_of e) m = (ap (λ n. 16 + n) is, refl) in
      record {
        says = answered lent m kind i r _ m (subst (λ q. Says q (field_in lent) m (event_in kind i r) (16 + number_of e) m) (sym why) says);
        why = is ∙ sym why;
      }

  -- one that is not
  pub taken : (e : Event) (happens : Bool) (m₁ : List ℕ) → e ≡ event_in kind i r → refusal lent m kind i r ≡ 0
      → happens ≡ does (field_in lent) (shuttle_in m) e
      → m₁ ≡ cond happens (stored m (who e) (becomes e (shuttle_in m (who e)))) m → Call (Ok happens) m₁
  unfolding Says number refusal_of
  taken e true m₁ is none does left =
      let says : Says 0 (field_in lent) m e 0 m₁ = inl (refl, sym does, left) in
      record {
        says = answered lent m kind i r 0 m₁ (rw (none, ← is) says);
        why = sym none;
      }
  taken e false m₁ is none does left =
      let says : Says 0 (field_in lent) m e 1 m₁ = inr (refl, sym does, left) in
      record {
        says = answered lent m kind i r 1 m₁ (rw (none, ← is) says);
        why = sym none;
      }
