-- What a direction leads to is a square beside, by a step of its number; each square beside is what some direction leads to.
use Rattle.std.proofs.Common.{◌≡◌, ℕ, zero, suc, ◌+◌, ◌*◌, ◌<◌, ◌≤◌, true, List, [], ◌∷◌, get_or, Some, refl, sym, ap, ◌∙◌, subst, ⊎_elim, arith}
use Rattle.std.proofs.lemmas.Bool.{cases_eq}
use Rattle.std.proofs.lemmas.Nat.{div-add-mod', mod_below}
use Rattle.std.proofs.lemmas.Bool.Decides.{nat_tests}
use Rattle.rules.specs.Field.{Field, beside}
use Rattle.field.specs.Directions.{rank, next, direction_to}
use Rattle.field.specs.declared.direction.Direction.{Direction}
use Rattle.field.specs.declared.direction.Direction.TheVariants.{Right, Down, Left, Up}
use Rattle.field.proofs.Leading.{leads_beside}

-- what is beside another has that one beside it
pub beside_sym : (f : Field) (c d : ℕ) → beside f c d ≡ true → beside f d c ≡ true
unfolding beside
beside_sym f c d h = grind (arith, nat_tests)

pub rank_below : (d : Direction) → rank d < 4
rank_below Right = omega arith
rank_below Down = omega arith
rank_below Left = omega arith
rank_below Up = omega arith

-- the directions in their order; their numbers tell them apart
abbrev pub in_order : List Direction
in_order = Right ∷ (Down ∷ (Left ∷ (Up ∷ [])))

rank_back : (d : Direction) → get_or in_order (rank d) Right ≡ d
rank_back Right = refl
rank_back Down = refl
rank_back Left = refl
rank_back Up = refl

rank_same : (d e : Direction) → rank d ≡ rank e → d ≡ e
rank_same d e h = sym (rank_back d) ∙ (ap (λ (j : ℕ). get_or in_order j Right) h ∙ rank_back e)

pub rank_at : (j : ℕ) → j < 4 → rank (get_or in_order j Right) ≡ j
rank_at zero l = refl
rank_at (suc zero) l = refl
rank_at (suc (suc zero)) l = refl
rank_at (suc (suc (suc zero))) l = refl
rank_at (suc (suc (suc (suc j)))) l = absurd (omega arith)

-- what holds of the first j directions, and of the j-th
pub rank_more : (P : Direction → Type 0) (j : ℕ) (d : Direction) → rank d ≡ j → ((b : Direction) → rank b < j → P b) → P d
    → (b : Direction) → rank b < j + 1 → P b
rank_more P j d is below here b l =
    ⊎_elim (λ e. subst P (rank_same d b (is ∙ sym e)) here) (λ ne. below b (omega arith)) (cases_eq (rank b) j)

module _ (f : Field) (wide : 1 ≤ f.across) (c : ℕ) (inside : c < f.across * f.down) where
  next_inside : (d : Direction) (e : ℕ) → next f c d ≡ Some e → e < f.across * f.down
  next_inside Right e h = grind (arith, nat_tests)
  next_inside Down e h = grind (arith, nat_tests)
  next_inside Left e h = grind (arith, nat_tests)
  next_inside Up e h = grind (arith, nat_tests)

  next_direction : (d : Direction) (e : ℕ) → next f c d ≡ Some e → direction_to f c e ≡ d
  next_direction Right e h = grind (arith, nat_tests)
  next_direction Down e h = grind (arith, nat_tests)
  next_direction Left e h =
      let low = mod_below c f.across wide in
      let whole = div-add-mod' c f.across in
      grind (arith, nat_tests)
  next_direction Up e h = grind (arith, nat_tests)

  -- what a direction leads to
  pub record Beside (d : Direction) (e : ℕ) : Type 0 where
    pub inside_too : e < f.across * f.down
    pub beside : beside f c e ≡ true
    pub direction : direction_to f c e ≡ d

  pub next_tells : (d : Direction) (e : ℕ) → next f c d ≡ Some e → Beside d e
  next_tells d e h =
      let l = next_inside d e h in
      record { inside_too = l; beside = (leads_beside f wide c e inside l).0 d h; direction = next_direction d e h }

  pub next_from : (e : ℕ) → e < f.across * f.down → beside f c e ≡ true → next f c (direction_to f c e) ≡ Some e
  next_from e l h = (leads_beside f wide c e inside l).1 h
