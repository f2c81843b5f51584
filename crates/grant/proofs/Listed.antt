-- A test of each element with its number.
use Rattle.std.proofs.Common.{◌≡◌, ℕ, suc, ◌+◌, Bool, ◌||◌, List, [], ◌∷◌, length, get_or, sym, refl, ap, ◌∙◌, add-zero, arith}
use Rattle.std.specs.List.{list_any, enumerate_from}
use Rattle.rules.specs.Tests.{any_to}
use Rattle.rules.proofs.Tests.{any_to_like}
use Rattle.rules.proofs.Words.{any_to_first}

pub any_listed : {X : Type 0} (test : ℕ × X → Bool) (xs : List X) (d : X) (a : ℕ)
    → list_any test (enumerate_from a xs) ≡ any_to (λ i. test (a + i, get_or xs i d)) (length xs)
unfolding any_to
any_listed test [] d a = refl
any_listed test (x ∷ xs) d a =
    let here : test (a, x) ≡ test (a + 0, x) = ap (λ k. test (k, x)) (sym (add-zero a)) in
    let rest = any_listed test xs d (a + 1) in
    let next = any_to_like (λ i. test (a + 1 + i, get_or xs i d)) (λ i. test (a + suc i, get_or xs i d)) (length xs)
    (λ k _. ap (λ n. test (n, get_or xs k d)) (omega arith)) in
    ap (λ b. b || list_any test (enumerate_from (a + 1) xs)) here ∙ ap (λ b. test (a + 0, x) || b) (rest ∙ next)
    ∙ sym (any_to_first (λ i. test (a + i, get_or (x ∷ xs) i d)) (length xs))
