-- A number, digit by digit.
use Rattle.std.proofs.Common.{◌≡◌, ℕ, ◌+◌, ◌-◌, ◌*◌, ◌<◌, ◌≤◌, min, true, false, List, get_or, length, drop, Some, None, ap, ◌∙◌}
use Rattle.std.specs.Char.{is_ascii_digit}
use Rattle.std.proofs.lemmas.List.{drop_more, drop_all}
use Rattle.std.proofs.lemmas.Bool.{cond-true, cond-false}
use Rattle.session.specs.Numbers.{number_after}

pub digit_more : (n : ℕ) (xs : List ℕ) (i : ℕ) → i < length xs → is_ascii_digit (get_or xs i 0) ≡ true
    → number_after n (drop i xs) ≡ number_after (min (10 * n + (get_or xs i 0 - 48)) 65535) (drop (i + 1) xs)
unfolding number_after
digit_more n xs i h is = ap (number_after n) (drop_more xs i 0 h) ∙ cond-true _ _ _ is

pub digit_none : (n : ℕ) (xs : List ℕ) (i : ℕ) → i < length xs → is_ascii_digit (get_or xs i 0) ≡ false → number_after n (drop i xs) ≡ None
unfolding number_after
digit_none n xs i h is = ap (number_after n) (drop_more xs i 0 h) ∙ cond-false _ _ _ is

pub digits_over : (n : ℕ) (xs : List ℕ) (i : ℕ) → length xs ≤ i → number_after n (drop i xs) ≡ Some n
unfolding number_after
digits_over n xs i h = ap (number_after n) (drop_all i xs h)
