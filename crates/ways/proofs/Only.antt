-- The order of routes goes one way, so that only one route is the first of the shortest.
use Rattle.std.proofs.Common.{◌≡◌, ℕ, ◌<◌, ◌≤◌, true, false, ◌&&◌, eqb, ltb, ◌⊎◌, List, [], ◌∷◌, length, sym, refl, ap, ◌∙◌, subst, inl, inr, ⊎_elim, arith}
use Rattle.std.proofs.lemmas.Bool.{and_parts, or_cases, ltb-true, eqb-true, both_ways, cases_eq, cases_Bool}
use Rattle.rules.specs.Field.{Field}
use Rattle.ways.specs.Order.{turn, before}
use Rattle.ways.specs.Law.{OneWay, OnlyOne}

-- where the first comes before: an earlier step, or the same step and then the rest
before_cases :
    (f : Field) (c d e : ℕ) (ds es : List ℕ) → before f c (d ∷ ds) (e ∷ es) ≡ true
    → (turn f c d < turn f c e) ⊎ ((d ≡ e) × (before f d ds es ≡ true))
unfolding before
before_cases f c d e ds es h =
    ⊎_elim
    (λ l. inl (ltb-true (turn f c d) (turn f c e) l))
    (λ p. let q = and_parts (eqb d e) (before f d ds es) p in inr (eqb-true d e q.0, q.1))
    (or_cases (ltb (turn f c d) (turn f c e)) (eqb d e && before f d ds es) h)

not_both : (f : Field) (r : List ℕ) (c : ℕ) (s : List ℕ) → before f c r s ≡ true → before f c s r ≡ true → ⊥
unfolding before
not_both f [] c s h k = both_ways false refl h
not_both f (d ∷ ds) c [] h k = both_ways false refl h
not_both f (d ∷ ds) c (e ∷ es) h k =
    ⊎_elim
    (λ l. ⊎_elim
    (λ m. omega arith)
    (λ q. let z : turn f c e ≡ turn f c d = ap (turn f c) q.0 in omega arith)
    (before_cases f c e d es ds k))
    (λ p. ⊎_elim
    (λ m. let z : turn f c d ≡ turn f c e = ap (turn f c) p.0 in omega arith)
    (λ q. not_both f ds d es p.1 (subst (λ (x : ℕ). before f x es ds ≡ true) q.0 q.1))
    (before_cases f c e d es ds k))
    (before_cases f c d e ds es h)

pub one_way : OneWay
one_way f c r s h = ⊎_elim (λ k. absurd (not_both f r c s h k)) (λ n. n) (cases_Bool (before f c s r))

same_or_not : (r s : List ℕ) → (s ≡ r) ⊎ (s ≡ r → ⊥)
same_or_not [] [] = inl refl
same_or_not [] (e ∷ es) = inr (λ z. cc)
same_or_not (d ∷ ds) [] = inr (λ z. cc)
same_or_not (d ∷ ds) (e ∷ es) =
    let rest = same_or_not ds es in
    ⊎_elim
    (λ (p : e ≡ d). ⊎_elim
    (λ (q : es ≡ ds). inl (ap (λ (x : ℕ). x ∷ es) p ∙ ap (λ (x : List ℕ). d ∷ x) q))
    (λ ne. inr (λ (z : e ∷ es ≡ d ∷ ds). ne (cc)))
    rest)
    (λ ne. inr (λ (z : e ∷ es ≡ d ∷ ds). ne (cc)))
    (cases_eq e d)

pub only_one : OnlyOne
only_one f i c row r s p q =
    let a : length r ≤ length s = p.least s q.through in
    let b : length s ≤ length r = q.least r p.through in
    ⊎_elim
    (λ e. sym e)
    (λ ne. absurd (not_both f r c s (p.first s q.through (omega arith) ne) (q.first r p.through (omega arith) (λ e. ne (sym e)))))
    (same_or_not r s)
