-- What the promises suppose, in the small hall: computed.
use Rattle.std.proofs.Common.{[], ◌∷◌, refl, arith}
use Rattle.std.proofs.lemmas.Bool.Decides.{nat_tests}
use Rattle.rules.specs.Event.{step, arrive}
use Rattle.promise.specs.Promise.{no_order, then, nothing}
use Rattle.examples.proofs.Open.{rules}
use Rattle.instances.proofs.hypotheses_hold.Goals as goal

pub returns : goal.returns
unfolding rules no_order
returns c =
    record {
      something_left = refl;
      granted = refl;
      moves = refl;
      holds_it = refl;
      holds_behind = refl;
      drives = then (arrive 0) (step 0 ∷ []) refl refl (then (step 0) [] refl refl nothing);
      no_step = λ i l. grind (arith, nat_tests);
      no_arrival = λ i l. grind (arith, nat_tests);
      other_moves = refl;
      stands = refl;
      nothing_left = refl;
      a_route = refl;
      since_it_moves = (refl, refl);
      since_nothing_is_left = (refl, refl);
      since_it_is_held = (refl, refl, refl, refl);
      since_not_safe = (refl, refl, refl, refl);
    }
