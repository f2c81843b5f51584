-- What is found not to be safe is not safe, and so never comes about.
use Rattle.std.proofs.Common.{◌≡◌, ℕ, true, false, [], ◌∷◌, refl}
use Rattle.std.proofs.lemmas.Bool.{both_ways}
use Rattle.rules.specs.Shuttle.{Fleet}
use Rattle.rules.specs.Safe.{Safe, safe}
use Rattle.rules.specs.Event.{after}
use Rattle.promise.proofs.GoingOn.{always_safe, trying_is_right}
use Rattle.examples.specs.Hall.{hall}
use Rattle.examples.proofs.Open.{rules}
use Rattle.instances.specs.Never.{NoOrderExists, BlockedPairNeverComesAbout}

not_safe : (n : ℕ) (g : Fleet) → safe n g ≡ false → Safe n g → ⊥
not_safe n g h s = both_ways (safe n g) h ((trying_is_right n g).1 s)

pub no_order_exists : NoOrderExists
unfolding rules
no_order_exists = (not_safe 2 _ refl, not_safe 6 _ refl)

-- whether they stand or move
facing : (g : Fleet) → (g 0).at ≡ 1 → (g 0).route ≡ 2 ∷ 6 ∷ 5 ∷ 4 ∷ 0 ∷ [] → (g 1).at ≡ 2 → (g 1).route ≡ 1 ∷ 5 ∷ 6 ∷ 7 ∷ 3 ∷ [] → safe 2 g ≡ false
unfolding rules
facing g a r b s = rw (a, r, b, s)

pub blocked_pair_never_comes_about : BlockedPairNeverComesAbout
blocked_pair_never_comes_about es a r b s =
    not_safe 2 (after hall es) (facing (after hall es) a r b s) (always_safe hall es can)
  where
    can : Rattle.rules.specs.Field.sound hall ≡ true
    can = unfold rules in refl
