-- The word that a command begins with.
use Rattle.std.proofs.Common.{◌≡◌, ℕ, Bool, true, false, List, ◌∷◌, length, get_or, codes, None, sym, refl, ap, ◌∙◌}
use Rattle.std.specs.Str.{bytes_eq}
use Rattle.std.proofs.lemmas.Slice.Eq.{bytes_eq-Decides}
use Rattle.std.proofs.lemmas.Bool.{cond-false}
use Rattle.session.specs.Commands.{asked}

-- what holds of a word that is this name
pub long : {w name : List ℕ} → w ≡ name → length w ≡ length name
long e = ap length e

pub byte : {w name : List ℕ} (i : ℕ) → w ≡ name → get_or w i 0 ≡ get_or name i 0
byte i e = ap (λ (l : List ℕ). get_or l i 0) e

other : (w name : List ℕ) → (w ≡ name → ⊥) → bytes_eq w name ≡ false
other w name differs = go (bytes_eq w name) refl
  where
    go : (b : Bool) → bytes_eq w name ≡ b → b ≡ false
    go true e = absurd (differs ((bytes_eq-Decides w name).0 e))
    go false e = refl

-- a word that no command begins with
pub unknown : (w : List ℕ) (ws : List (List ℕ)) → (w ≡ codes "order" → ⊥) → (w ≡ codes "step" → ⊥) → (w ≡ codes "arrive" → ⊥)
    → (w ≡ codes "way" → ⊥) → (w ≡ codes "tick" → ⊥) → (w ≡ codes "show" → ⊥) → None ≡ asked (w ∷ ws)
unknown w ws a b c d e f =
    sym (cond-false _ _ _ (other w _ a) ∙ cond-false _ _ _ (other w _ b) ∙ cond-false _ _ _ (other w _ c) ∙ cond-false _ _ _ (other w _ d)
    ∙ cond-false _ _ _ (other w _ e) ∙ cond-false _ _ _ (other w _ f))
