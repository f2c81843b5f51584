-- What the way answers is what is told.
use Rattle.std.proofs.Common.{◌≡◌, ℕ, ◌<◌, true, false, inr, List, ◌++◌, length, get_or, take, drop, Some, None, Ok, Err, vec_items, sym, refl, ap, ◌∙◌, arith}
use Rattle.std.specs.Prelude.{Vec}
use Rattle.std.specs.Global.{Global}
use Rattle.std.proofs.lemmas.List.{take_all, take-append-le}
use Rattle.std.proofs.lemmas.Bool.Decides.{nat_tests}
use Rattle.rules.specs.Memory.{FieldNumbers, field_in, field_ok}
use Rattle.ways.specs.Asked.{asked_ok, way_refusal}
use Rattle.field.specs.Refusals.{number_of}
use Rattle.field.specs.declared.refusal.Refusal.{Refusal}
use Rattle.field.specs.declared.refusal.Refusal.TheVariants as refusal
use Rattle.way.specs.Answer.{Answered}
use Rattle.session.specs.declared.numbers.Place.{Place}
use Rattle.session.specs.Ways.{letters_of, squares_at, Told}

asked_true : (lent : FieldNumbers) (i c : ℕ) (row : List ℕ) (n : ℕ) → way_refusal lent i c row n ≡ 0 → asked_ok (field_in lent) i c row n ≡ true
unfolding way_refusal
asked_true lent i c row n e = grind (arith, nat_tests)

-- what is not accepted of a shuttle that is there is turned away by 5
asked_false : (lent : FieldNumbers) (i c : ℕ) (row : List ℕ) (n k : ℕ) → field_ok lent ≡ true → i < length lent.bays → k ≡ way_refusal lent i c row n → 0 < k
    → (asked_ok (field_in lent) i c row n ≡ false) × (k ≡ 5)
unfolding way_refusal
asked_false lent i c row n k ok there e some = (grind (arith, nat_tests), grind (arith, nat_tests))

fifth : (r : Refusal) → number_of r ≡ 5 → r ≡ refusal.Way
fifth refusal.Field e = absurd (omega arith)
fifth refusal.Memory e = absurd (omega arith)
fifth refusal.Event e = absurd (omega arith)
fifth (refusal.Text line) e = absurd (omega arith)
fifth refusal.Way e = refl
fifth refusal.Tick e = absurd (omega arith)

front : (r xs : List ℕ) (k : ℕ) → length r ≡ k → take k (r ++ xs) ≡ r
front r xs k long = take-append-le k r xs (omega arith) ∙ take_all k r (omega arith)

module _ (lent : FieldNumbers) (i c : ℕ) (places : List Place) (row row' before after : List ℕ) (here : i < length lent.bays)
    (bay : c ≡ get_or lent.bays i 0) (are : squares_at (field_in lent) places ≡ Some row) (same : row' ≡ row) (long : length before ≡ 256) where
  pub told_along : (k : ℕ) (v : Vec ℕ Global) → Answered lent i c row' before after (Ok (Some k))
      → vec_items v ≡ letters_of (field_in lent) c (take k after) → Told lent i places (Ok (Some v))
  told_along k v answered is =
      let there : Answered lent i (get_or lent.bays i 0) row before after (Ok (Some k)) = rw (bay, same) at answered in (
        row,
        (here, are, asked_true lent i (get_or lent.bays i 0) row 256 (ap (way_refusal lent i (get_or lent.bays i 0) row) (sym long) ∙ there.0)),
        (
          there.1.0,
          there.1.2,
          is ∙ ap (λ x. letters_of (field_in lent) x (take k after)) bay
              ∙ ap (λ l. letters_of (field_in lent) (get_or lent.bays i 0) (take k l)) there.1.3
              ∙ ap (letters_of (field_in lent) (get_or lent.bays i 0)) (front there.1.0 (drop k before) k there.1.1),
        ),
      )

  pub told_nowhere : Answered lent i c row' before after (Ok None) → Told lent i places (Ok None)
  told_nowhere answered =
      let there : Answered lent i (get_or lent.bays i 0) row before after (Ok None) = rw (bay, same) at answered in (
        row,
        (here, are, asked_true lent i (get_or lent.bays i 0) row 256 (ap (way_refusal lent i (get_or lent.bays i 0) row) (sym long) ∙ there.0)),
        there.1,
      )

  pub told_refused : (r : Refusal) → field_ok lent ≡ true → Answered lent i c row' before after (Err r) → Told lent i places (Err r)
  told_refused r ok answered =
      let there : Answered lent i (get_or lent.bays i 0) row before after (Err r) = rw (bay, same) at answered in
      let no =
      asked_false lent i (get_or lent.bays i 0) row 256 (number_of r) ok here (there.0 ∙ ap (way_refusal lent i (get_or lent.bays i 0) row) long)
      (omega (arith, there.0, there.1)) in
      inr (fifth r no.1, here, inr (row, are, no.0))
