-- The fleets at the choices of a row of ticks, and how they follow each other.
use Rattle.std.proofs.Common.{◌≡◌, ℕ, zero, suc, ◌+◌, ◌<◌, ◌≤◌, Bool, true, false, cond, ◌&&◌, eqb, ◌⊎◌, length, sym, refl, ap, ◌∙◌, subst, ⊎_elim, arith}
use Rattle.std.proofs.lemmas.Bool.{both_ways, cond_both, and_parts, or_left, not-true, eq-eqb}
use Rattle.std.proofs.lemmas.Bool.Decides.{nat_tests}
use Rattle.rules.specs.Tests.{is_empty}
use Rattle.rules.specs.Field.{Field}
use Rattle.rules.specs.Shuttle.{Shuttle, Fleet, holds, stepped, arrived}
use Rattle.rules.specs.Event.{grants}
use Rattle.promise.proofs.Places.{steps}
use Rattle.promise.proofs.Events.{Good}
use Rattle.turns.specs.Tick.{waits, one_more}
use Rattle.turns.proofs.Parts.{PlacedOwn}

-- the fleets `h t` at the choices of a row of ticks, the waits `w t` counted there, the one chosen `c t`, and who is due in tick t
pub record Choices (f : Field) (d : ℕ) (h : ℕ → Fleet) (w : ℕ → ℕ → ℕ) (c : ℕ → ℕ)
    (due : ℕ → ℕ → Bool) : Type 0 where
  pub good : (t : ℕ) → Good f (h t)
  pub own : (t i : ℕ) → i < f.shuttles → PlacedOwn f i (h t i)
  -- whoever could be granted its step has waited no longer than the chosen one
  pub longest : (t i : ℕ) → i < f.shuttles → grants f (h t) i ≡ true → (c t < f.shuttles) × (w t i ≤ w t (c t))
  pub granted : (t : ℕ) → c t < f.shuttles → grants f (h t) (c t) ≡ true
  -- from one choice to the next: the chosen one has stepped, and may have come; one that moves comes if it is due; one that waits stays as
  -- it is; one with nothing left stands where it stood, perhaps with an order
  pub stepping : (t : ℕ) → c t < f.shuttles → (h (suc t) (c t) ≡ stepped (h t (c t))) ⊎ (h (suc t) (c t) ≡ arrived (stepped (h t (c t))))
  pub driving : (t i : ℕ) → i < f.shuttles → (h t i).moving ≡ true
      → ((h (suc t) i ≡ h t i) × (due (suc t) i ≡ false)) ⊎ (h (suc t) i ≡ arrived (h t i))
  pub waiting : (t i : ℕ) → i < f.shuttles → (c t ≡ i → ⊥) → (h t i).moving ≡ false → is_empty (h t i).route ≡ false → h (suc t) i ≡ h t i
  pub idling : (t i : ℕ) → i < f.shuttles → (h t i).moving ≡ false → is_empty (h t i).route ≡ true
      → ((h (suc t) i).at ≡ (h t i).at) × ((h (suc t) i).moving ≡ false)
  -- who waits has waited one more, and who does not, 0; the chosen one begins again
  pub waited : (t i : ℕ) → i < f.shuttles → waits (h t i) ≡ true → 0 < w t i
  pub not_waited : (t i : ℕ) → i < f.shuttles → waits (h t i) ≡ false → w t i ≡ 0
  pub counting : (t i : ℕ) → i < f.shuttles → w (suc t) i ≡ one_more (h (suc t) i) (cond (eqb i (c t)) 0 (w t i))
  -- each arrival is due within d ticks
  pub soon : (t i : ℕ) → i < f.shuttles → (h t i).moving ≡ true → (k : ℕ) × (k < d) × (due (t + suc k) i ≡ true)

-- it stands with something left
pub waits_from : (s : Shuttle) → s.moving ≡ false → is_empty s.route ≡ false → waits s ≡ true
unfolding waits
waits_from s m e = grind (arith, nat_tests)

pub waits_tells : (s : Shuttle) → waits s ≡ true → (s.moving ≡ false) × (is_empty s.route ≡ false)
unfolding waits
waits_tells s v = let (a, b) = and_parts _ _ v in (not-true _ a, not-true _ b)

pub waits_not : (s : Shuttle) → is_empty s.route ≡ true → waits s ≡ false
unfolding waits
waits_not s e = grind (arith, nat_tests)

-- it holds the square that it is on
pub holds_at : (s : Shuttle) → holds s s.at ≡ true
unfolding holds
holds_at s = or_left (eqb s.at s.at) (s.moving && eqb s.behind s.at) (eq-eqb s.at s.at refl)

pub more_least : (s : Shuttle) (w : ℕ) → one_more s w ≤ suc w
unfolding one_more
more_least s w = cond_both (waits s) (suc w) 0 (λ x. x ≤ suc w) (λ _. omega arith) (λ _. omega arith)

module _ (f : Field) (d : ℕ) (h : ℕ → Fleet) (w : ℕ → ℕ → ℕ) (c : ℕ → ℕ) (due : ℕ → ℕ → Bool) (r : Choices f d h w c due) (i : ℕ)
    (l : i < f.shuttles) where
  -- it comes to stand within so many ticks, with as much left
  abbrev pub Stood : ℕ → ℕ → Type 0
  Stood k t = (j : ℕ) × (j ≤ k) × ((h (t + j) i).moving ≡ false) × ((h (t + j) i).route ≡ (h t i).route)

  stops_by : (k t : ℕ) → (h t i).moving ≡ true → (h (suc t) i ≡ h t i → due (suc t) i ≡ false → Stood (suc k) t) → Stood (suc k) t
  unfolding arrived
  stops_by k t v more = ⊎_elim
      (λ (g : (h (suc t) i ≡ h t i) × (due (suc t) i ≡ false)). more g.0 g.1)
      (λ (g : h (suc t) i ≡ arrived (h t i)).
      let z : suc t ≡ t + 1 = omega arith in (
        1,
        omega arith,
        subst (λ u. (h u i).moving ≡ false) z (ap (λ o. o.moving) g),
        subst (λ u. (h u i).route ≡ (h t i).route) z
            (ap (λ o. o.route) g),
      ))
      (r.driving t i l v)

  pub stops : (k t : ℕ) → (h t i).moving ≡ true → due (t + suc k) i ≡ true → Stood (suc k) t
  stops zero t v q = stops_by zero t v (λ g o. let z : t + 1 ≡ suc t = omega arith in absurd
      (both_ways _ o (subst (λ u. due u i ≡ true) z q)))
  stops (suc k) t v q =
      let rest : (h (suc t) i).moving ≡ true → due (suc t + suc k) i ≡ true → Stood (suc k) (suc t) = stops k (suc t) in
      stops_by (suc k) t v (λ g o.
      let z : t + suc (suc k) ≡ suc t + suc k = omega arith in
      let (j, a, b, e) = rest (ap (λ o. o.moving) g ∙ v) (subst (λ u. due u i ≡ true) z q) in
      let u : suc t + j ≡ t + suc j = omega arith in
      (suc j, omega arith, subst (λ n. (h n i).moving ≡ false) u b, subst (λ n. (h n i).route ≡ (h t i).route) u (e ∙ ap (λ o. o.route) g)))

  -- a step leaves it one square less
  pub shorter : (t : ℕ) → c t ≡ i → is_empty (h t i).route ≡ false → suc (length (h (suc t) i).route) ≡ length (h t i).route
  unfolding arrived
  shorter t g u =
      let len = ap length (steps (h t i) u).left in
      let l' : c t < f.shuttles = subst (λ x. x < f.shuttles) (sym g) l in
      ⊎_elim
      (λ (q : h (suc t) (c t) ≡ stepped (h t (c t))).
      let q' = ap (λ o. length o.route) (subst (λ x. h (suc t) x ≡ stepped (h t x)) g q) in omega arith)
      (λ (q : h (suc t) (c t) ≡ arrived (stepped (h t (c t)))).
      let q' = ap (λ o. length o.route) (subst (λ x. h (suc t) x ≡ arrived (stepped (h t x))) g q) in omega arith)
      (r.stepping t l')
