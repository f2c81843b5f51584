-- Masks as sets: union, one member, and when a set lies within another.
use Rattle.std.proofs.Common.{◌≡◌, ℕ, zero, suc, ◌+◌, ◌-◌, ◌/◌, ◌%◌, ◌^◌, ◌<◌, true, false, ◌||◌, eqb, ltb, sym, refl, ap, ◌∙◌, ⊎_elim, one-mul, one-add, arith}
use lib.Bits.{bit_or, or_step, or_shr, or_zero_l}
use Rattle.std.proofs.lemmas.Nat.{shr_le, shr-shr, shl-shr, pow-add, pow_pos, pow_below, div_below}
use Rattle.std.proofs.lemmas.Bool.{cases_order, eq-eqb, ne_eqb, lt-ltb}
use Rattle.std.proofs.lemmas.Bool.Decides.{nat_tests}
use Rattle.safety.specs.Masks.{has}

pub has_or : (a b j : ℕ) → has (bit_or a b) j ≡ (has a j || has b j)
unfolding has
has_or a b j = rw (or_shr a b j, or_step (a / 2 ^ j) (b / 2 ^ j)) (grind (arith, nat_tests))

pub has_nothing : (j : ℕ) → has 0 j ≡ false
unfolding has
has_nothing j = let z : 0 / 2 ^ j ≡ 0 = omega (arith, shr_le 0 j) in rw z

shifted : (t j : ℕ) → 2 ^ (suc t + j) / 2 ^ j ≡ 2 ^ suc t
shifted t j = rw (pow-add 2 (suc t) j) (shl-shr (2 ^ suc t) j)

-- the set of one shuttle
pub has_one : (i j : ℕ) → has (2 ^ i) j ≡ eqb i j
unfolding has
has_one i j =
    ⊎_elim
    (λ e. let q : 2 ^ i / 2 ^ j ≡ 1 = rw e (rw one-mul at (shl-shr 1 j)) in rw (q, eq-eqb i j e))
    (λ o. ⊎_elim
    (λ l. let q : 2 ^ i / 2 ^ j ≡ 0 = omega (arith, div_below (2 ^ i) (2 ^ j) 1 (pow_pos j) (omega (arith, pow_below i j l))) in rw q (sym (ne_eqb i j (λ e. omega arith))))
    (λ l.
    let t = i - suc j in
    let e : i ≡ suc t + j = omega arith in
    let q : 2 ^ i / 2 ^ j ≡ 2 ^ suc t = ap (λ n. 2 ^ n / 2 ^ j) e ∙ shifted t j in
    rw q (rw (ne_eqb i j (λ e. omega arith)) (ne_eqb (2 ^ suc t % 2) 1 (λ z. omega arith))))
    o)
    (cases_order i j)

has_half : (a j : ℕ) → has (a / 2) j ≡ has a (suc j)
unfolding has
has_half a j = let e = shr-shr a 1 j in let o = one-add j in grind (arith, e, o)

-- the set of the first n
pub has_below : (n j : ℕ) → has (2 ^ n - 1) j ≡ ltb j n
unfolding has
has_below zero j = has_nothing j ∙ grind (arith, nat_tests)
has_below (suc n) zero =
    let odd : (2 ^ suc n - 1) / 2 ^ 0 % 2 ≡ 1 = omega (arith, pow_pos n) in
    eq-eqb _ _ odd ∙ sym (lt-ltb 0 (suc n) (omega arith))
has_below (suc n) (suc j) =
    let half : (2 ^ suc n - 1) / 2 ≡ 2 ^ n - 1 = omega (arith, pow_pos n) in
    sym (has_half (2 ^ suc n - 1) j) ∙ ap (λ a. has a j) half ∙ has_below n j ∙ grind (arith, nat_tests)

-- a set that lies within another adds nothing to it
pub or_within : (k a b : ℕ) → a < 2 ^ k → ((j : ℕ) → j < k → has a j ≡ true → has b j ≡ true) → bit_or a b ≡ b
unfolding has
or_within zero a b l f = let z : a ≡ 0 = omega arith in rw z (or_zero_l b)
or_within (suc k) a b l f =
    let rest : bit_or (a / 2) (b / 2) ≡ b / 2 =
    or_within k (a / 2) (b / 2) (omega arith) (λ j m h. has_half b j ∙ f (suc j) (omega arith) (sym (has_half a j) ∙ h)) in
    let low : has a 0 ≡ true → has b 0 ≡ true = f 0 (omega arith) in
    let one : 2 ^ 0 ≡ 1 = refl in
    rw (or_step a b, rest) (grind (arith, nat_tests, low))
