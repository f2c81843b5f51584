-- A square is beside another exactly if a direction leads there.
use Rattle.std.proofs.Common.{◌≡◌, ℕ, suc, ◌+◌, ◌-◌, ◌*◌, ◌/◌, ◌%◌, ◌<◌, ◌≤◌, Bool, true, false, cond, ◌&&◌, ◌||◌, eqb, ◌⊎◌, refl, sym, ap, ◌∙◌, subst, inl, inr, ⊎_elim, arith}
use Rattle.std.proofs.lemmas.Bool.{eqb-true, ltb-true, leb-true, and_parts, or_cases}
use Rattle.std.proofs.lemmas.Nat.{div-add-mod', div-mul-add, mod_below}
use Rattle.std.proofs.lemmas.Bool.Decides.{nat_tests}
use Rattle.std.specs.Prelude.{Some, None}
use Rattle.rules.specs.Field.{Field, beside}
use Rattle.field.specs.Directions.{next, direction_to, LeadsBeside}
use Rattle.field.specs.declared.direction.Direction.{Direction}
use Rattle.field.specs.declared.direction.Direction.TheVariants.{Right, Down, Left, Up}

-- the next square is in the same row exactly if it is not the first of one
pub row_next : (a c : ℕ) → c % a + 1 < a → c / a ≡ suc c / a
row_next a c h =
    let e : c / a * a + (c % a + 1) ≡ suc c = omega (arith, div-add-mod' c a) in
    sym (div-mul-add (c / a) a (c % a + 1) h) ∙ ap (λ (x : ℕ). x / a) e

pub row_same : (a c : ℕ) → 1 ≤ a → c / a ≡ suc c / a → suc c % a ≡ c % a + 1
row_same a c p e =
    let q : suc c / a * a ≡ c / a * a = ap (λ (x : ℕ). x * a) (sym e) in
    omega (arith, div-add-mod' c a, div-add-mod' (suc c) a)

pub row_before : (a c : ℕ) → 1 ≤ a → (c % a ≡ 0 → ⊥) → c / a ≡ (c - 1) / a
row_before a c p ne =
    let e : c / a * a + (c % a - 1) ≡ c - 1 = omega (arith, div-add-mod' c a) in
    let l : c % a - 1 < a = omega (arith, mod_below c a p) in
    sym (div-mul-add (c / a) a (c % a - 1) l) ∙ ap (λ (x : ℕ). x / a) e

-- two squares that are beside each other, by the four directions
pub beside_cases :
    (f : Field) (c d : ℕ) → beside f c d ≡ true
    → ((c / f.across ≡ d / f.across) × (suc c ≡ d)) ⊎ (((c / f.across ≡ d / f.across) × (suc d ≡ c)) ⊎ ((c + f.across ≡ d) ⊎ (d + f.across ≡ c)))
unfolding beside
beside_cases f c d h =
    ⊎_elim
    (λ r. let p = and_parts (eqb (c / f.across) (d / f.across)) (eqb (suc c) d || eqb (suc d) c) r in
    let row = eqb-true (c / f.across) (d / f.across) p.0 in
    ⊎_elim (λ e. inl (row, eqb-true (suc c) d e)) (λ e. inr (inl (row, eqb-true (suc d) c e))) (or_cases (eqb (suc c) d) (eqb (suc d) c) p.1))
    (λ r. inr (inr (⊎_elim (λ e. inl (eqb-true (c + f.across) d e)) (λ e. inr (eqb-true (d + f.across) c e)) (or_cases (eqb (c + f.across) d) (eqb (d + f.across) c) r))))
    (or_cases (eqb (c / f.across) (d / f.across) && (eqb (suc c) d || eqb (suc d) c)) (eqb (c + f.across) d || eqb (d + f.across) c) h)

some_tells : (b : Bool) (x e : ℕ) → cond b (Some x) None ≡ Some e → (b ≡ true) × (x ≡ e)
some_tells true x e h = (refl, grind arith)
some_tells false x e h = absurd (grind arith)

module _ (f : Field) (c : ℕ) (wide : 1 ≤ f.across) (inside : c < f.across * f.down) where
  next_beside : (d : Direction) (e : ℕ) → next f c d ≡ Some e → beside f c e ≡ true
  unfolding beside
  next_beside Right e h =
      let p = some_tells _ _ e h in
      let q = and_parts _ _ p.0 in
      let row = row_next f.across c (ltb-true _ _ q.0) in
      let to = p.1 in
      grind (arith, nat_tests)
  next_beside Down e h = let to = (some_tells _ _ e h).1 in grind (arith, nat_tests)
  next_beside Left e h =
      let p = some_tells _ _ e h in
      let some : 0 < c % f.across = ltb-true _ _ p.0 in
      let row = row_before f.across c wide (omega (arith, some)) in
      let pos : 1 ≤ c = omega (arith, some, div-add-mod' c f.across) in
      let to = p.1 in
      grind (arith, nat_tests)
  next_beside Up e h =
      let p = some_tells _ _ e h in
      let far = leb-true _ _ p.0 in
      let to = p.1 in
      grind (arith, nat_tests)

  beside_next : (e : ℕ) → e < f.across * f.down → beside f c e ≡ true → next f c (direction_to f c e) ≡ Some e
  beside_next e l h =
      ⊎_elim
      (λ r. let q : suc c ≡ e = r.1 in
      let same : c / f.across ≡ suc c / f.across = subst (λ (x : ℕ). c / f.across ≡ x / f.across) (sym q) r.0 in
      let m : c % f.across + 1 < f.across = omega (arith, row_same f.across c wide same, mod_below (suc c) f.across wide) in
      grind (arith, nat_tests))
      (λ o. ⊎_elim
      (λ r. let q : suc e ≡ c = r.1 in
      let same : e / f.across ≡ suc e / f.across = subst (λ (x : ℕ). e / f.across ≡ x / f.across) (sym q) (sym r.0) in
      let m : c % f.across ≡ e % f.across + 1 = subst (λ (x : ℕ). x % f.across ≡ e % f.across + 1) q (row_same f.across e wide same) in
      let w : c % f.across < f.across = mod_below c f.across wide in
      grind (arith, nat_tests))
      (λ u. ⊎_elim (λ (q : c + f.across ≡ e). grind (arith, nat_tests)) (λ (q : e + f.across ≡ c). grind (arith, nat_tests)) u)
      o)
      (beside_cases f c e h)

pub leads_beside : (f : Field) → 1 ≤ f.across → LeadsBeside f
leads_beside f wide = λ c e inside l. (λ d h. next_beside f c wide inside d e h, beside_next f c wide inside e l)
