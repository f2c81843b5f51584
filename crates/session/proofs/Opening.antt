-- A hall is opened: what the start answers and leaves.
use Rattle.std.proofs.Common.{◌≡◌, ℕ, ◌+◌, ◌*◌, Bool, true, false, cond, eqb, List, length, refl, ap, ◌∙◌, arith}
use Rattle.std.proofs.lemmas.Bool.{eqb-true, eqb-false}
use Rattle.rules.specs.Shuttle.{at_home}
use Rattle.rules.specs.Memory.{FieldNumbers, field_in, field_ok, shuttle_in}
use Rattle.calls.proofs.Follow.{started_holds}
use Rattle.field.specs.Refusals.{number_of}
use Rattle.field.specs.declared.refusal.Refusal.{Refusal}
use Rattle.field.specs.declared.refusal.Refusal.TheVariants as refusal
use Rattle.hall.specs.Start.{StartLeft, StartSays, start_refusal}

first : (e : Refusal) → number_of e ≡ 1 → e ≡ refusal.Field
first refusal.Field is = refl
first refusal.Memory is = absurd (omega arith)
first refusal.Event is = absurd (omega arith)
first (refusal.Text line) is = absurd (omega arith)
first refusal.Way is = absurd (omega arith)
first refusal.Tick is = absurd (omega arith)

module _ (lent : FieldNumbers) (m left : List ℕ) where
  -- each shuttle is at home
  pub start_home : StartSays lent m 0 left → (i : ℕ) → shuttle_in left i ≡ at_home (field_in lent) i
  unfolding StartLeft start_refusal
  start_home says = go (field_ok lent) (eqb (length m) (260 * length lent.bays)) refl refl says
    where
      go : (t u : Bool) → field_ok lent ≡ t → eqb (length m) (260 * length lent.bays) ≡ u → StartLeft (cond t (cond u 0 2) 1) lent m 0 left
          → (i : ℕ) → shuttle_in left i ≡ at_home (field_in lent) i
      go true true ok long now i = ap (λ l. shuttle_in l i) now.1 ∙ (started_holds lent m ok (eqb-true _ _ long)).1 i
      go true false ok long now i = absurd (omega (arith, now.0))
      go false u ok long now i = absurd (omega (arith, now.0))

  -- what is turned away, with memory as long as it should be for a field, is no field
  pub start_none : (e : Refusal) → StartSays lent m (16 + number_of e) left → (field_ok lent ≡ true → length m ≡ 260 * length lent.bays)
      → (e ≡ refusal.Field) × (field_ok lent ≡ false)
  unfolding StartLeft start_refusal
  start_none e says long = go (field_ok lent) (eqb (length m) (260 * length lent.bays)) refl refl says
    where
      go : (t u : Bool) → field_ok lent ≡ t → eqb (length m) (260 * length lent.bays) ≡ u
          → StartLeft (cond t (cond u 0 2) 1) lent m (16 + number_of e) left → (e ≡ refusal.Field) × (field_ok lent ≡ false)
      go true true ok is now = absurd (omega (arith, now.0))
      go true false ok is now = absurd (eqb-false _ _ is (long ok))
      go false u ok is now = (first e (omega (arith, now.0)), ok)
