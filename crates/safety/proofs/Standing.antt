-- Tables of who stands where, and the sets that a walk over a route meets.
use Rattle.std.proofs.Common.{◌≡◌, ℕ, ◌+◌, ◌^◌, ◌<◌, ◌≤◌, Bool, ◌&&◌, ◌||◌, eqb, ltb, ◌≢◌, List, [], ◌∷◌, length, get_or, drop, set, ap, ◌∙◌, ⊎_elim, arith}
use lib.Bits.{bit_or}
use Rattle.std.proofs.lemmas.List.{get_or-set_same, get_or-set_other, at_drop_more, at_drop_all}
use Rattle.std.proofs.lemmas.Bool.{cases_eq}
use Rattle.std.proofs.lemmas.Bool.Decides.{nat_tests}
use Rattle.rules.specs.Tests.{among}
use Rattle.safety.specs.Masks.{has, met}
use Rattle.safety.proofs.Masks.{has_or, has_one, has_nothing}

-- the table says of each square which of the first n are on it
abbrev pub Stands : (at : ℕ → ℕ) → ℕ → List ℕ → Type 0
Stands at n t = (c k : ℕ) → has (get_or t c 0) k ≡ (ltb k n && eqb (at k) c)

pub stands_none : (at : ℕ → ℕ) (t : List ℕ) → ((c : ℕ) → get_or t c 0 ≡ 0) → Stands at 0 t
stands_none at t clear c k = ap (λ x. has x k) (clear c) ∙ has_nothing k ∙ grind (arith, nat_tests)

-- one shuttle more
pub stands_more : (at : ℕ → ℕ) (n : ℕ) (t : List ℕ) → at n < length t → Stands at n t
    → Stands at (n + 1) (set t (at n) (bit_or (get_or t (at n) 0) (2 ^ n)))
stands_more at n t l h c k =
    ⊎_elim
    (λ (e : c ≡ at n).
    rw (e, get_or-set_same t (at n) (bit_or (get_or t (at n) 0) (2 ^ n)) 0 l, has_or (get_or t (at n) 0) (2 ^ n) k, has_one n k, h (at n) k)
    (let s : n ≡ k → at n ≡ at k = ap at in grind (arith, nat_tests, s)))
    (λ ne.
    let other : c ≢ at n = ne in
    rw (get_or-set_other t (at n) c (bit_or (get_or t (at n) 0) (2 ^ n)) 0 ne, h c k)
    (let s : n ≡ k → at n ≡ at k = ap at in grind (arith, nat_tests, s)))
    (cases_eq c (at n))

-- a walk over a route: what was met so far, and what is still to be met
pub met_more : (t r : List ℕ) (i all j : ℕ) (whole : Bool) → i < length r → (has all j || met t j (drop i r)) ≡ whole
    → (has (bit_or all (get_or t (get_or r i 0) 0)) j || met t j (drop (i + 1) r)) ≡ whole
unfolding met
met_more t r i all j whole l h =
    let e : met t j (drop i r) ≡ met t j (get_or r i 0 ∷ drop (i + 1) r) = at_drop_more (met t j) r i 0 l in
    let o = has_or all (get_or t (get_or r i 0) 0) j in grind (arith, nat_tests)

pub met_all : (t r : List ℕ) (i all j : ℕ) (whole : Bool) → length r ≤ i → (has all j || met t j (drop i r)) ≡ whole → has all j ≡ whole
unfolding met
met_all t r i all j whole l h = let e : met t j (drop i r) ≡ met t j [] = at_drop_all (met t j) r i l in grind (arith, nat_tests)

-- whoever is met is on one of the squares
pub met_is : (at : ℕ → ℕ) (n : ℕ) (t : List ℕ) → Stands at n t → (j : ℕ) (r : List ℕ) → met t j r ≡ (ltb j n && among (at j) r)
unfolding met among
met_is at n t h j [] = grind (arith, nat_tests)
met_is at n t h j (c ∷ cs) = let ih = met_is at n t h j cs in let e = h c j in grind (arith, nat_tests)
