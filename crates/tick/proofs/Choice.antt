-- What is chosen, from whose step it is said to be.
use Rattle.std.proofs.Common.{Some, None, ◌≡◌, ℕ, ◌<◌, true, false, List, subst, ⊎_elim, arith}
use Rattle.std.proofs.lemmas.Bool.Decides.{nat_tests}
use Rattle.rules.specs.Tests.{is_empty}
use Rattle.rules.specs.Field.{Field}
use Rattle.rules.specs.Shuttle.{Fleet}
use Rattle.rules.specs.Event.{grants}
use Rattle.promise.proofs.Events.{grants_tells}
use Rattle.turns.specs.Tick.{chosen}
use Rattle.turns.proofs.Ticks.{Best, choice}
use Rattle.tick.specs.Answer.{whose_of}

-- what is chosen: a shuttle whose step is granted, and so stands with something left; or nobody where no step is granted
pub record Chosen (f : Field) (g : Fleet) (ws : List ℕ) (i : ℕ) : Type 0 where
  pub is : chosen f g ws ≡ i
  pub below : i < f.shuttles
  pub granted : grants f g i ≡ true
  pub some_left : is_empty (g i).route ≡ false

pub record Nobody (f : Field) (g : Fleet) (ws : List ℕ) : Type 0 where
  pub is : chosen f g ws ≡ f.shuttles
  pub none : (i : ℕ) → i < f.shuttles → grants f g i ≡ false

module _ (f : Field) (g : Fleet) (ws : List ℕ) where
  pub chosen_tells : (i : ℕ) → whose_of f.shuttles (chosen f g ws) ≡ Some i → Chosen f g ws i
  unfolding whose_of
  chosen_tells i e =
      ⊎_elim (λ (b : Best f g ws f.shuttles (chosen f g ws)).
      let is : chosen f g ws ≡ i = grind (arith, nat_tests) in
      let granted = subst (λ j. grants f g j ≡ true) is b.granted in
      record { is = is; below = omega (arith, b.below); granted = granted; some_left = (grants_tells f g i granted).something_left })
      (λ h. let no = h.0 in absurd (grind (arith, nat_tests))) (choice f g ws)

  pub nobody_tells : whose_of f.shuttles (chosen f g ws) ≡ None → Nobody f g ws
  unfolding whose_of
  nobody_tells e =
      ⊎_elim (λ (b : Best f g ws f.shuttles (chosen f g ws)). let below = b.below in absurd (grind (arith, nat_tests)))
      (λ h. record { is = h.0; none = h.1 }) (choice f g ws)
