-- One letter more stands there, or none.
use Rattle.std.proofs.Common.{rules, tests, ◌≡◌, ◌-◌, [], ◌++◌, eqb, vec_items, sym, ap, ◌∙◌, append-nil, arith}
use Rattle.std.proofs.lemmas.Bool.Decides.{nat_tests}
use Rattle.std.proofs.lemmas.Iterator.{YieldsList-from_slice}
use Rattle.std.proofs.lemmas.Iterator.Search.{position_from_yields_List}
use Rattle.text.specs.Fields.{bays_from}
use Rattle.text.proofs.Reading.{bay_more, bay_none, bays_over}
use Rattle.text.proofs.fields.bays_of.Goals.{else-loop-letter-test, then-loop-letter-test+in_default}
use Rattle.text.proofs.fields.bays_of.Goals as goal

pub loop-letter-preserved : goal.loop-letter-preserved
loop-letter-preserved c =
    let letter = c.loop-letter.letter-counter in
    let first =
    position_from_yields_List (λ s. eqb s letter) _ _ _ c.position.ensures.ran (YieldsList-from_slice c.args.all.now cc) (λ x b q k. search (rules, tests)) in
    bay_more _ _ c.args.all.now letter c.in-Some.square c.unwrap_or.result (omega arith) (sym first ∙ c.in-Some.is)
    (grind (arith, nat_tests)) c.in_ok-push.ensures.items ∙ c.loop-letter.invariant

pub returns : goal.returns
returns c =
    let letter = c.loop-letter.letter-counter in
    let over : bays_from (113 - letter) letter c.args.all.now ≡ [] =
    elim c.loop-letter-test.branch [
      | else-loop-letter-test w ↦ bays_over _ letter c.args.all.now (omega arith)
      | then-loop-letter-test+in_default w ↦
          bay_none _ letter c.args.all.now
          (sym (position_from_yields_List (λ s. eqb s letter) _ _ _ w.position.ensures.ran (YieldsList-from_slice c.args.all.now cc) (λ x b q k. search (rules, tests)))
          ∙ w.in_default.is)
    ] in
    sym (append-nil (vec_items c.loop-letter.bays)) ∙ ap (λ l. vec_items c.loop-letter.bays ++ l) (sym over) ∙ c.loop-letter.invariant
