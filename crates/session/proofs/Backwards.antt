-- A range that is gone through from its end.
use Rattle.std.proofs.Common.{◌≡◌, ℕ, zero, suc, ◌+◌, ◌-◌, ◌<◌, ◌≤◌, Bool, true, false, List, [], ◌∷◌, length, Some, None, Option, cond, sym, refl, ap, ◌∙◌, subst, zero-add, arith}
use Rattle.std.specs.Prelude.{MatchOption, IfSome, find, ⊤}
use Rattle.std.specs.Borrow.{Bor}
use Rattle.std.specs.Fn.{Mut, CalledAt}
use Rattle.std.specs.List.{FoldsTo}
use Rattle.std.specs.Iterator.{YieldsThen}
use Rattle.std.specs.declared.iter.Rev.{Rev}
use Rattle.std.specs.declared.ops.Range.{Range}
use Rattle.std.specs.Iterator.Adapters.{rev_source, rev_steps}
use Rattle.std.proofs.lemmas.Iterator.{YieldsList}
use Rattle.std.proofs.lemmas.Iterator.Adapters.{option_map_id}
use Rattle.std.proofs.lemmas.Iterator.Consumers.{YieldsList-from_shown}
use Rattle.std.proofs.lemmas.Iterator.Search.{find_from_yields_List}
use Rattle.session.specs.Picture.{last_of}

-- n numbers from a on, the last of them first
down : (a n : ℕ) → List ℕ
down a zero = []
down a (suc n) = (a + n) ∷ down a n

-- what a call of `next` does to such a range
abbrev pub back_steps : Rev (Range ℕ) → Option ℕ → Rev (Range ℕ) → Type 0
back_steps =
    rev_steps (λ (s : Range ℕ) (r : Option ℕ) (t : Range ℕ).
    (t.start ≡ s.start) × MatchOption r ((s.end - s.start ≡ 0) × (t.end ≡ s.end)) (λ x. (0 < s.end - s.start) × (x ≡ t.end) × (s.end ≡ t.end + 1)))

left : Rev (Range ℕ) → List ℕ
left s = down (rev_source s).start ((rev_source s).end - (rev_source s).start)

none_left : (s t : Rev (Range ℕ)) → back_steps s None t → length (left s) ≡ 0
unfolding left down
none_left s t p = ap (λ n. length (down (rev_source s).start n)) p.1.0

one_more : (a b c n m x : ℕ) → c ≡ a → n ≡ suc m → x ≡ a + m → down a n ≡ x ∷ down c m
unfolding down
one_more a b c n m x e f g = rw (e, f, g) refl

one_left : (s : Rev (Range ℕ)) (x : ℕ) (t : Rev (Range ℕ)) → back_steps s (Some x) t → left s ≡ x ∷ left t
unfolding left
one_left s x t p =
    one_more (rev_source s).start (rev_source s).end (rev_source t).start ((rev_source s).end - (rev_source s).start)
    ((rev_source t).end - (rev_source t).start) x p.0 (omega (arith, p.0, p.1.0, p.1.2)) (omega (arith, p.0, p.1.0, p.1.1, p.1.2))

yields_down : {s : Rev (Range ℕ)} (n : ℕ) → rev_source s ≡ record { start = 0; end = n } → YieldsList back_steps (λ x. x) s (down 0 n)
unfolding left
yields_down {s} n e =
    let all = subst (λ (p : Range ℕ). YieldsList back_steps (λ x. x) s (down p.start (p.end - p.start))) e
    (YieldsList-from_shown back_steps (λ (x : ℕ). x) left none_left one_left s) in
    subst (λ (k : ℕ). YieldsList back_steps (λ x. x) s (down 0 k)) {x = n - 0} {y = n} (omega arith) all

-- what `find` finds there is the last
found_last : (n : ℕ) (test : ℕ → Bool) → find test (down 0 n) ≡ last_of n test
unfolding down last_of
found_last zero test = refl
found_last (suc n) test = rw (zero-add n, found_last n test) refl

-- so it answers the last number below n that passes the test, where each call of its closure answers that test
pub last_found : {F : Type 0} {g : Mut F (Bor ℕ × Unit {0}) Bool} {s : Rev (Range ℕ)} (n : ℕ) (test : ℕ → Bool) (u : Rev (Range ℕ)) (f : F) (r : Option ℕ)
    → (xs : List ℕ) × (j : F) × YieldsThen back_steps s xs r u × FoldsTo (λ p x q. CalledAt g p x false q) f xs j
    × MatchOption r ⊤ (λ x. (h : F) × CalledAt g j x true h)
    → rev_source s ≡ record { start = 0; end = n } → ((x : ℕ) (b : Bool) (q : F) → CalledAt g f x b q → (q ≡ f) × (b ≡ test x)) → r ≡ last_of n test
last_found n test u f r ran source calls = sym (option_map_id r) ∙ find_from_yields_List test u f r ran (yields_down n source) calls ∙ found_last n test

-- which is one of at most 16
pub last_few : (n : ℕ) (test : ℕ → Bool) (r : Option ℕ) → n ≤ 16 → r ≡ last_of n test → IfSome r (λ i. i < 16)
unfolding last_of
last_few zero test r few is = rw is tt
last_few (suc n) test r few is = rw is (go (test n) (last_of n test) (last_few n test (last_of n test) (omega arith) refl))
  where
    go : (b : Bool) (o : Option ℕ) → IfSome o (λ i. i < 16) → IfSome (cond b (Some n) o) (λ i. i < 16)
    go true o h = omega arith
    go false o h = h
