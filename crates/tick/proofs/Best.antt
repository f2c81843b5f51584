-- The best so far, one shuttle further.
use Rattle.std.proofs.Common.{◌≡◌, ℕ, ◌+◌, ◌<◌, Option, Some, None, Bool, true, false, ◌||◌, eqb, ltb, List, get_or, sym, ap, ◌∙◌, arith}
use Rattle.std.proofs.lemmas.Bool.Decides.{nat_tests}
use Rattle.std.specs.Option.{unwrap_or}
use Rattle.rules.specs.Field.{Field}
use Rattle.rules.specs.Shuttle.{Fleet}
use Rattle.rules.specs.Event.{grants}
use Rattle.turns.specs.Tick.{better, chosen_to}
use Rattle.tick.specs.Answer.{whose_of}

-- the choice, as a number again
pub choice_is : (n i : ℕ) → unwrap_or (whose_of n i) n ≡ i
unfolding whose_of
choice_is n i = grind (arith, nat_tests)

module _ (f : Field) (g : Fleet) (ws : List ℕ) (n k : ℕ) (best : Option ℕ) (all : f.shuttles ≡ n)
    (is : best ≡ whose_of f.shuttles (chosen_to f g ws k)) where
  -- shuttle k has waited longer than the best
  abbrev Longer : Bool → Type 0
  Longer b = (eqb (unwrap_or best n) n || ltb (get_or ws (unwrap_or best n) 0) (get_or ws k 0)) ≡ b

  best_is : unwrap_or best n ≡ chosen_to f g ws k
  best_is = ap (unwrap_or best) (sym all) ∙ ap (λ b. unwrap_or b f.shuttles) is ∙ choice_is f.shuttles (chosen_to f g ws k)

  pub next_better : k < n → grants f g k ≡ true → Longer true → Some k ≡ whose_of f.shuttles (chosen_to f g ws (k + 1))
  unfolding chosen_to better whose_of
  next_better l p q = let same = best_is in grind (arith, nat_tests)

  pub next_not_granted : grants f g k ≡ false → best ≡ whose_of f.shuttles (chosen_to f g ws (k + 1))
  unfolding chosen_to better
  next_not_granted p = grind (arith, nat_tests)

  pub next_not_longer : Longer false → best ≡ whose_of f.shuttles (chosen_to f g ws (k + 1))
  unfolding chosen_to better
  next_not_longer q = let same = best_is in grind (arith, nat_tests)

-- nobody before the first
pub nobody_yet : (f : Field) (g : Fleet) (ws : List ℕ) → None ≡ whose_of f.shuttles (chosen_to f g ws 0)
unfolding chosen_to whose_of
nobody_yet f g ws = grind (arith, nat_tests)

-- what choosing is proved by
pub ruleset choosing = (next_better, next_not_granted, next_not_longer, nobody_yet)
