-- Counting the waits one by one.
use Rattle.std.proofs.Common.{◌≡◌, ℕ, zero, suc, ◌+◌, ◌<◌, ◌≤◌, true, false, ltb, List, length, get_or, set, refl, ap, ◌∙◌, arith}
use Rattle.std.proofs.lemmas.List.{get_or-set_other}
use Rattle.std.proofs.lemmas.Bool.{ltb-true}
use Rattle.std.proofs.lemmas.Bool.Decides.{nat_tests}
use Rattle.rules.specs.Shuttle.{Fleet}
use Rattle.rules.proofs.Tests.{every_tells}
use Rattle.turns.specs.Tick.{waits, one_more, counted_to}
use Rattle.tick.specs.Tick.{can_count}

-- a wait that is not counted yet is as it was
pub counted_after : (g : Fleet) (ws : List ℕ) (k i : ℕ) → k ≤ i → get_or (counted_to g ws k) i 0 ≡ get_or ws i 0
unfolding counted_to
counted_after g ws zero i l = refl
counted_after g ws (suc k) i l =
    get_or-set_other (counted_to g ws k) k i (one_more (g k) (get_or ws k 0)) 0 (omega arith) ∙ counted_after g ws k i (omega arith)

module _ (g : Fleet) (ws us : List ℕ) (k : ℕ) (so_far : us ≡ counted_to g ws k) where
  pub not_yet : get_or us k 0 ≡ get_or ws k 0
  not_yet = ap (λ us. get_or us k 0) so_far ∙ counted_after g ws k k (omega arith)

  -- it can count on
  pub wait_below : can_count ws ≡ true → k < length ws → get_or us k 0 < 0xffff_ffff_ffff_ffff
  unfolding can_count
  wait_below h l =
      let below = ltb-true _ _ (every_tells (λ w. ltb w 0xffff_ffff_ffff_ffff) ws h k 0 l) in let same = not_yet in omega arith

  -- one more is counted
  pub one_counted : waits (g k) ≡ true → set us k (get_or us k 0 + 1) ≡ counted_to g ws (k + 1)
  unfolding counted_to one_more
  one_counted h = let same = not_yet in grind (arith, nat_tests)

  pub none_counted : waits (g k) ≡ false → set us k 0 ≡ counted_to g ws (k + 1)
  unfolding counted_to one_more
  none_counted h = grind (arith, nat_tests)

-- what counting is proved by
pub ruleset counting = (wait_below, one_counted, none_counted)
