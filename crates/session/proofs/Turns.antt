-- Ticks of a hall that is played, at the numbers that were lent.
use Rattle.std.proofs.Common.{◌≡◌, ℕ, zero, suc, ◌*◌, ◌<◌, ◌≤◌, eqb, ⊎_elim, List, length, Some, None, Ok, Err, Option, Result, arith}
use Rattle.std.specs.Prelude.{IfOk, IfSome}
use Rattle.std.proofs.lemmas.Bool.{cond-true, cond-false, eq-eqb, ne_eqb, cases_eq}
use Rattle.std.proofs.lemmas.Bool.Decides.{nat_tests}
use mathlib.Core.Logic.{∥∥₁_map}
use Rattle.rules.specs.Memory.{FieldNumbers}
use Rattle.calls.specs.Call.{Reached, Promised}
use Rattle.field.specs.declared.refusal.Refusal.{Refusal}
use Rattle.tick.specs.Answer.{number, number_for}
use Rattle.tick.specs.Tick.{tick_refusal, TickSays, Answered}
use Rattle.session.specs.declared.state.Session.{Session}
use Rattle.session.specs.Played.{numbers_of, memory_of}
use Rattle.session.specs.Ticks.{Turned}

module _ (s : Session) (lent : FieldNumbers) (m left : List ℕ) (same : lent ≡ numbers_of s) (was : m ≡ memory_of s) (vs vs' marks : List ℕ)
    (r : Result (Option ℕ) Refusal) (answered : Answered lent m vs marks (number r) left vs') where
  pub led_turned : ∥ Reached (numbers_of s) left ∥₁
  led_turned =
      let on : Reached (numbers_of s) (memory_of s) → Reached (numbers_of s) left × Promised (numbers_of s) left = rw (same, was) at answered.stays in
      ∥∥₁_map s.reached (λ x. (on x).0)

  pub turned_on : (t : Session) → numbers_of t ≡ numbers_of s → left ≡ memory_of t → Turned s t vs vs' marks r
  turned_on t stays is = record { same = stays; says = rw (same, was, is) at answered.says }

-- whose step a tick grants is a shuttle that is there
module _ (lent : FieldNumbers) (m left vs vs' marks : List ℕ) (few : length lent.bays ≤ 16) where
  below : (w i : ℕ) → w ≤ length lent.bays → 256 * i ≡ number_for (length lent.bays) w → i < 16
  unfolding number_for
  below w i most is =
      ⊎_elim (λ e. let one = cond-true (eqb w (length lent.bays)) 1 (256 * w) (eq-eqb w _ e) in absurd (omega (arith, is, one)))
      (λ ne. let same = cond-false (eqb w (length lent.bays)) 1 (256 * w) (ne_eqb w _ ne) in omega (arith, is, same)) (cases_eq w (length lent.bays))

  says_below : (n i : ℕ) → n ≤ 6 → TickSays n lent m vs marks (256 * i) left vs' → i < 16
  unfolding TickSays
  says_below zero i small says =
      below _ i (⊎_elim (λ h. omega (arith, h.0)) (λ h. omega (arith, h.0)) says.row.then) says.answer
  says_below (suc k) i small says = absurd (omega (arith, says.0))

  refused_small : tick_refusal lent m vs marks ≤ 6
  unfolding tick_refusal
  refused_small = grind (arith, nat_tests)

  pub whose_there : (r : Result (Option ℕ) Refusal) → Answered lent m vs marks (number r) left vs' → IfOk r (λ o. IfSome o (λ i. i < 16))
  whose_there (Ok (Some i)) answered = says_below (tick_refusal lent m vs marks) i refused_small answered.says
  whose_there (Ok None) answered = tt
  whose_there (Err r) answered = tt
