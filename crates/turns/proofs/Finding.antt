-- The parts of a field are found by joining, and so whether each touches at most two bays.
use Rattle.std.proofs.Common.{◌≡◌, ℕ, zero, suc, ◌*◌, ◌<◌, ◌≤◌, Bool, true, false, cond, ◌&&◌, ◌||◌, eqb, ◌⊎◌, List, map, length, get_or, sym, refl, ap, ◌∙◌, subst, inl, inr, ⊎_elim, arith}
use Rattle.std.proofs.lemmas.Bool.{both_ways, cases_Bool, cases_lt, cond-true, cond-false, cond_both, and_parts, and_from, or_cases, or_left, or_right, not-true, not_from_false, eqb-true, eq-eqb, ltb-true}
use Rattle.std.specs.List.{range_with_len}
use Rattle.std.proofs.lemmas.List.{length-map, get_or-map}
use Rattle.std.proofs.lemmas.List.FromFn.{length-range_with_len, get_or-range_with_len}
use Rattle.rules.specs.Field.{Field, free_square, beside}
use Rattle.rules.proofs.Tests.{every_to_tells, every_to_from, any_to_tells, any_to_from}
use Rattle.turns.specs.Parts.{open_square, linked, Connected, itself, link, back, chain, at_bay, AtMostTwo, joined}
use Rattle.turns.specs.Parts.{joined_row, joined_all, parts}
use Rattle.turns.specs.Parts.{touches, not_three, never_three, at_most_two}
use Rattle.turns.specs.Parts.{PartsAreFound, AtMostTwoIsFound}

-- an open square is a square of the field
pub open_below : (f : Field) (c : ℕ) → open_square f c ≡ true → c < f.across * f.down
unfolding open_square free_square
open_below f c h = ltb-true _ _ (and_parts _ _ (and_parts _ _ h).0).0

pub linked_tells : (f : Field) (c d : ℕ) → linked f c d ≡ true → (open_square f c ≡ true) × (open_square f d ≡ true) × (beside f c d ≡ true)
unfolding linked
linked_tells f c d h = let (a, q) = and_parts _ _ h in let (b, e) = and_parts _ _ q in (a, b, e)

pub at_bay_tells : (f : Field) (i c : ℕ) → at_bay f i c ≡ true → (open_square f c ≡ true) × (beside f (f.bay i) c ≡ true)
unfolding at_bay
at_bay_tells f i c h = and_parts _ _ h

module _ (f : Field) where
  -- as many numbers as before
  joined_long : (c d : ℕ) (ps : List ℕ) → length (joined f c d ps) ≡ length ps
  unfolding joined
  joined_long c d ps = cond_both (linked f c d) (map (λ p. cond (eqb p (get_or ps d 0)) (get_or ps c 0) p) ps) ps (λ qs. length qs ≡ length ps)
      (λ _. length-map ps _) (λ _. refl)

  row_long : (c d : ℕ) (ps : List ℕ) → length (joined_row f c d ps) ≡ length ps
  unfolding joined_row
  row_long c zero ps = refl
  row_long c (suc d) ps = joined_long c d (joined_row f c d ps) ∙ row_long c d ps

  all_long : (c d : ℕ) (ps : List ℕ) → length (joined_all f c d ps) ≡ length ps
  unfolding joined_all
  all_long zero d ps = refl
  all_long (suc c) d ps = row_long c d (joined_all f c d ps) ∙ all_long c d ps

  -- the number of a square after joining: c's where it was d's, if they are linked
  joined_at : (c d : ℕ) (ps : List ℕ) (x : ℕ) → x < length ps →
      get_or (joined f c d ps) x 0 ≡ cond (linked f c d && eqb (get_or ps x 0) (get_or ps d 0)) (get_or ps c 0) (get_or ps x 0)
  unfolding joined
  joined_at c d ps x l = ⊎_elim
      (λ (h : linked f c d ≡ true).
      ap (λ qs. get_or qs x 0) (cond-true _ (map (λ p. cond (eqb p (get_or ps d 0)) (get_or ps c 0) p) ps) ps h)
      ∙ get_or-map (λ p. cond (eqb p (get_or ps d 0)) (get_or ps c 0) p) ps x 0 0 l
      ∙ ap (λ b. cond (b && eqb (get_or ps x 0) (get_or ps d 0)) (get_or ps c 0) (get_or ps x 0)) (sym h))
      (λ (h : linked f c d ≡ false).
      ap (λ qs. get_or qs x 0) (cond-false _ (map (λ p. cond (eqb p (get_or ps d 0)) (get_or ps c 0) p) ps) ps h)
      ∙ ap (λ b. cond (b && eqb (get_or ps x 0) (get_or ps d 0)) (get_or ps c 0) (get_or ps x 0)) (sym h))
      (cases_Bool (linked f c d))

  -- squares with one number keep one number
  joined_keeps : (c d : ℕ) (ps : List ℕ) (x y : ℕ) → x < length ps → y < length ps → get_or ps x 0 ≡ get_or ps y 0 →
      get_or (joined f c d ps) x 0 ≡ get_or (joined f c d ps) y 0
  joined_keeps c d ps x y l m e =
      joined_at c d ps x l ∙ ap (λ v. cond (linked f c d && eqb v (get_or ps d 0)) (get_or ps c 0) v) e ∙ sym (joined_at c d ps y m)

  row_keeps : (c d : ℕ) (ps : List ℕ) (x y : ℕ) → x < length ps → y < length ps → get_or ps x 0 ≡ get_or ps y 0 →
      get_or (joined_row f c d ps) x 0 ≡ get_or (joined_row f c d ps) y 0
  unfolding joined_row
  row_keeps c zero ps x y l m e = e
  row_keeps c (suc d) ps x y l m e =
      let q = row_long c d ps in joined_keeps c d (joined_row f c d ps) x y (omega arith) (omega arith) (row_keeps c d ps x y l m e)

  -- linked squares get one
  joined_links : (c d : ℕ) (ps : List ℕ) → c < length ps → d < length ps → linked f c d ≡ true →
      get_or (joined f c d ps) c 0 ≡ get_or (joined f c d ps) d 0
  joined_links c d ps l m h =
      joined_at c d ps c l
      ∙ cond_both (linked f c d && eqb (get_or ps c 0) (get_or ps d 0)) (get_or ps c 0) (get_or ps c 0) (λ v. v ≡ get_or ps c 0) (λ _. refl) (λ _. refl)
      ∙ sym (cond-true _ (get_or ps c 0) (get_or ps d 0) (and_from _ _ h (eq-eqb _ _ refl))) ∙ sym (joined_at c d ps d m)

  row_links : (c d e : ℕ) (ps : List ℕ) → c < length ps → d ≤ length ps → e < d → linked f c e ≡ true →
      get_or (joined_row f c d ps) c 0 ≡ get_or (joined_row f c d ps) e 0
  unfolding joined_row
  row_links c zero e ps k m l h = absurd (omega arith)
  row_links c (suc d) e ps k m l h =
      let before : e < d → get_or (joined_row f c d ps) c 0 ≡ get_or (joined_row f c d ps) e 0 = λ a. row_links c d e ps k (omega arith) a h in
      let qs = joined_row f c d ps in
      let q = row_long c d ps in
      ⊎_elim (λ a. joined_keeps c d qs c e (omega arith) (omega arith) (before a))
      (λ a. let z : d ≡ e = omega arith in
      subst (λ x. get_or (joined f c d qs) c 0 ≡ get_or (joined f c d qs) x 0) z
      (joined_links c d qs (omega arith) (omega arith) (subst (λ x. linked f c x ≡ true) (sym z) h)))
      (cases_lt e d)

  all_links : (c d b e : ℕ) (ps : List ℕ) → c ≤ length ps → d ≤ length ps → b < c → e < d → linked f b e ≡ true →
      get_or (joined_all f c d ps) b 0 ≡ get_or (joined_all f c d ps) e 0
  unfolding joined_all
  all_links zero d b e ps k o l m h = absurd (omega arith)
  all_links (suc c) d b e ps k o l m h =
      let before : b < c → get_or (joined_all f c d ps) b 0 ≡ get_or (joined_all f c d ps) e 0 = λ a. all_links c d b e ps
      (omega arith) o a m h in
      let qs = joined_all f c d ps in
      let q = all_long c d ps in
      ⊎_elim (λ a. row_keeps c d qs b e (omega arith) (omega arith) (before a))
      (λ a. let z : c ≡ b = omega arith in
      subst (λ x. get_or (joined_row f c d qs) x 0 ≡ get_or (joined_row f c d qs) e 0) z
      (row_links c d e qs (omega arith) (omega arith) m (subst (λ x. linked f x e ≡ true) (sym z) h)))
      (cases_lt b c)

  -- where squares with one number are connected, they still are after joining
  abbrev Right : List ℕ → Type 0
  Right ps = (x y : ℕ) → x < length ps → y < length ps → get_or ps x 0 ≡ get_or ps y 0 → Connected f x y

  joined_right : (c d : ℕ) (ps : List ℕ) → c < length ps → d < length ps → Right ps → Right (joined f c d ps)
  joined_right c d ps lc ld r x y l' m' e =
      let q = joined_long c d ps in
      let l : x < length ps = omega arith in
      let m : y < length ps = omega arith in
      cases l m (sym (joined_at c d ps x l) ∙ e ∙ joined_at c d ps y m)
    where
      number : ℕ → ℕ
      number x = get_or ps x 0

      gets : ℕ → Bool
      gets x = linked f c d && eqb (get_or ps x 0) (get_or ps d 0)

      across : (x y : ℕ) → x < length ps → y < length ps → linked f c d ≡ true → get_or ps x 0 ≡ get_or ps d 0 → get_or ps c 0 ≡ get_or ps y 0 →
          Connected f x y
      across x y l m h a b = chain x d y (r x d l ld a) (chain d c y (back c d (link c d h)) (r c y lc m b))

      cases : x < length ps → y < length ps → cond (gets x) (number c) (number x) ≡ cond (gets y) (number c) (number y) → Connected f x y
      cases l m e = ⊎_elim
          (λ (a : gets x ≡ true). let (h, a') = and_parts (linked f c d) _ a in ⊎_elim
          (λ (b : gets y ≡ true). r x y l m (eqb-true _ _ a' ∙ sym (eqb-true _ _ (and_parts (linked f c d) _ b).1)))
          (λ (b : gets y ≡ false).
          across x y l m h (eqb-true _ _ a') (sym (cond-true _ (number c) (number x) a) ∙ e ∙ cond-false _ (number c) (number y) b))
          (cases_Bool (gets y)))
          (λ (a : gets x ≡ false). ⊎_elim
          (λ (b : gets y ≡ true). let (h, b') = and_parts (linked f c d) _ b in
          back y x (across y x m l h (eqb-true _ _ b') (sym (cond-true _ (number c) (number y) b) ∙ sym e ∙ cond-false _ (number c)
          (number x) a)))
          (λ (b : gets y ≡ false). r x y l m (sym (cond-false _ (number c) (number x) a) ∙ e ∙ cond-false _ (number c) (number y) b))
          (cases_Bool (gets y)))
          (cases_Bool (gets x))

  row_right : (c d : ℕ) (ps : List ℕ) → c < length ps → d ≤ length ps → Right ps → Right (joined_row f c d ps)
  unfolding joined_row
  row_right c zero ps k m r = r
  row_right c (suc d) ps k m r =
      let q = row_long c d ps in joined_right c d (joined_row f c d ps) (omega arith) (omega arith) (row_right c d ps k (omega arith) r)

  all_right : (c d : ℕ) (ps : List ℕ) → c ≤ length ps → d ≤ length ps → Right ps → Right (joined_all f c d ps)
  unfolding joined_all
  all_right zero d ps k m r = r
  all_right (suc c) d ps k m r =
      let q = all_long c d ps in row_right c d (joined_all f c d ps) (omega arith) (omega arith) (all_right c d ps (omega arith) m r)

  -- connected squares have one number
  pub one_number : {c d : ℕ} → Connected f c d → get_or (parts f) c 0 ≡ get_or (parts f) d 0
  unfolding parts
  one_number (itself c) = refl
  one_number (link c d h) =
      let n = f.across * f.down in
      let (a, b, _) = linked_tells f c d h in
      let q = length-range_with_len 0 n in
      all_links n n c d (range_with_len 0 n) (omega arith) (omega arith) (open_below f c a) (open_below f d b) h
  one_number (back c d r) = sym (one_number r)
  one_number (chain c d e r q) = one_number r ∙ one_number q

pub parts_are_found : PartsAreFound
unfolding parts
parts_are_found f c d l m =
    let n = f.across * f.down in
    let q = length-range_with_len 0 n in
    let long = all_long f n n (range_with_len 0 n) in (
      all_right f n n (range_with_len 0 n) (omega arith) (omega arith)
          (λ x y a b e. let u = get_or-range_with_len 0 n x 0 (omega arith) in let v = get_or-range_with_len 0 n y 0
          (omega arith) in let e' : x ≡ y = omega arith in subst (Connected f x) e' (itself x))
          c d (omega arith) (omega arith),
      one_number f,
    )

-- who touches a part has an open square of it at its bay
pub touches_tells : (f : Field) (i p : ℕ) → touches f (parts f) i p ≡ true → (c : ℕ) × (at_bay f i c ≡ true) × (get_or (parts f) c 0 ≡ p)
unfolding touches
touches_tells f i p h =
    let (c, _, q) = any_to_tells (λ c. at_bay f i c && eqb (get_or (parts f) c 0) p) (f.across * f.down) h in
    let (a, b) = and_parts _ _ q in (c, a, eqb-true _ _ b)

pub touches_from : (f : Field) (i c p : ℕ) → at_bay f i c ≡ true → get_or (parts f) c 0 ≡ p → touches f (parts f) i p ≡ true
unfolding touches
touches_from f i c p a e = any_to_from (λ c. at_bay f i c && eqb (get_or (parts f) c 0) p) (f.across * f.down) c
    (open_below f c (at_bay_tells f i c a).0) (and_from _ _ a (eq-eqb _ _ e))

-- of three that touch a part two are the same
pub two_touch : (f : Field) → AtMostTwo f → (i j k p : ℕ) → i < f.shuttles → j < f.shuttles → k < f.shuttles → touches f
    (parts f) i p ≡ true →
    touches f (parts f) j p ≡ true → touches f (parts f) k p ≡ true → (i ≡ j) ⊎ ((i ≡ k) ⊎ (j ≡ k))
two_touch f two i j k p l m o a b e =
    let (x, x₁, x₂) = touches_tells f i p a in
    let (y, y₁, y₂) = touches_tells f j p b in
    let (z, z₁, z₂) = touches_tells f k p e in
    two i j k x y z l m o x₁ y₁ z₁ (same i j x y x₁ y₁ (x₂ ∙ sym y₂)) (same j k y z y₁ z₁ (y₂ ∙ sym z₂))
  where
    same : (i j x y : ℕ) → at_bay f i x ≡ true → at_bay f j y ≡ true → get_or (parts f) x 0 ≡ get_or (parts f) y 0 → Connected f x y
    same i j x y a b = (parts_are_found f x y (open_below f x (at_bay_tells f i x a).0) (open_below f y (at_bay_tells f j y b).0)).0

-- the test of three, both ways
three_tells : (f : Field) (i j k p : ℕ) → not_three f (parts f) i j k p ≡ true → touches f (parts f) i p ≡ true → touches f
    (parts f) j p ≡ true → touches f (parts f) k p ≡ true →
    (i ≡ j) ⊎ ((i ≡ k) ⊎ (j ≡ k))
unfolding not_three
three_tells f i j k p h a b e = ⊎_elim
    (λ q. ⊎_elim (λ z. inl (eqb-true _ _ z)) (λ z. inr (⊎_elim (λ z. inl (eqb-true _ _ z)) (λ z. inr (eqb-true _ _ z)) (or_cases _ _ z)))
    (or_cases _ _ q))
    (λ q. absurd (both_ways _ (not-true _ q) (and_from _ _ a (and_from _ _ b e))))
    (or_cases _ _ h)

three_from : (f : Field) (i j k p : ℕ) → (touches f (parts f) i p ≡ true → touches f (parts f) j p ≡ true → touches f (parts f) k p ≡ true →
    (i ≡ j) ⊎ ((i ≡ k) ⊎ (j ≡ k))) → not_three f (parts f) i j k p ≡ true
unfolding not_three
three_from f i j k p h = ⊎_elim
    (λ (t : (touches f (parts f) i p && (touches f (parts f) j p && touches f (parts f) k p)) ≡ true).
    let (a, q) = and_parts _ _ t in
    let (b, e) = and_parts _ _ q in
    let same : (eqb i j || (eqb i k || eqb j k)) ≡ true = ⊎_elim (λ z. or_left (eqb i j) _ (eq-eqb i j z))
    (λ z. or_right (eqb i j) (eqb i k || eqb j k) (⊎_elim (λ z. or_left (eqb i k) _ (eq-eqb i k z))
    (λ z. or_right (eqb i k) _ (eq-eqb j k z)) z))
    (h a b e) in
    or_left (eqb i j || (eqb i k || eqb j k)) _ same)
    (λ (t : (touches f (parts f) i p && (touches f (parts f) j p && touches f (parts f) k p)) ≡ false). or_right _ _ (not_from_false _ t))
    (cases_Bool (touches f (parts f) i p && (touches f (parts f) j p && touches f (parts f) k p)))

pub at_most_two_is_found : AtMostTwoIsFound
unfolding at_most_two never_three
at_most_two_is_found f = (
  λ h i j k c d e l m o a b z r q.
      let e₁ = one_number f r in
      let e₂ = one_number f q in
      three_tells f i j k (get_or (parts f) c 0)
      (every_to_tells _ _ (every_to_tells _ _ (every_to_tells _ _ (every_to_tells _ _ h i l) j m) k o) c
      (open_below f c (at_bay_tells f i c a).0))
      (touches_from f i c (get_or (parts f) c 0) a refl) (touches_from f j d (get_or (parts f) c 0) b (sym e₁))
      (touches_from f k e (get_or (parts f) c 0) z (sym e₂ ∙ sym e₁)),
  λ two. every_to_from _ _ (λ i l. every_to_from _ _ (λ j m. every_to_from _ _ (λ k o. every_to_from _ _ (λ c _.
      three_from f i j k (get_or (parts f) c 0) (two_touch f two i j k (get_or (parts f) c 0) l m o))))),
)
