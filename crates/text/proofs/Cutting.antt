-- The library's lines and words are those of specs/Lines.
use Rattle.std.proofs.Common.{◌≡◌, ℕ, suc, ◌-◌, Bool, false, not, cond, ◌&&◌, ◌==◌, eqb, List, [], ◌∷◌, length, slice_index, take, drop, map, filter, refl, sym, ap, ◌∙◌, arith}
use Rattle.std.specs.List.{slice_split, onto_first}
use Rattle.std.proofs.lemmas.Bool.{cond-false, ne_eqb}
use Rattle.std.proofs.lemmas.Bool.Decides.{nat_tests}
use Rattle.bstr.specs.Text.{line_len, lines_from, lines_of, without_terminator, no_cr}
use Rattle.bstr.proofs.lemmas.LineLemmas.{lines-nil, lines-step, line_len-bounds}
use Rattle.rules.specs.Tests.{is_empty}
use Rattle.text.specs.Lines.{first_is, put_first, lines, words}

-- a line feed first: a line of it alone
feed_first : (b : ℕ) (bs : List ℕ) → b ≡ 10 → lines_of (b ∷ bs) ≡ (b ∷ []) ∷ lines_of bs
unfolding line_len
feed_first b bs e = let first = lines-step (b ∷ bs) (omega arith) in grind (arith, nat_tests)

-- another byte before others is put before the first line
other_first : (b c : ℕ) (cs : List ℕ) → (b ≡ 10 → ⊥) → lines_of (b ∷ c ∷ cs) ≡ put_first b (lines_of (c ∷ cs))
unfolding line_len put_first
other_first b c cs e =
    let more : line_len (b ∷ c ∷ cs) ≡ suc (line_len (c ∷ cs)) = cond-false _ _ _ (ne_eqb b 10 e) in
    lines-step (b ∷ c ∷ cs) (omega arith) ∙ ap (λ k. take k (b ∷ c ∷ cs) ∷ lines_of (drop k (b ∷ c ∷ cs))) more
    ∙ sym (ap (put_first b) (lines-step (c ∷ cs) (omega arith)))

-- the last byte of all but the first, and all but the last
last_same : (b c : ℕ) (cs : List ℕ) → slice_index (b ∷ c ∷ cs) (length (b ∷ c ∷ cs) - 1) ≡ slice_index (c ∷ cs) (length (c ∷ cs) - 1)
last_same b c cs = let e : length (b ∷ c ∷ cs) - 1 ≡ suc (length (c ∷ cs) - 1) = omega arith in ap (slice_index (b ∷ c ∷ cs)) e

front_same : (b c : ℕ) (cs : List ℕ) → take (length (b ∷ c ∷ cs) - 1) (b ∷ c ∷ cs) ≡ b ∷ take (length (c ∷ cs) - 1) (c ∷ cs)
front_same b c cs = let e : length (b ∷ c ∷ cs) - 1 ≡ suc (length (c ∷ cs) - 1) = omega arith in ap (λ k. take k (b ∷ c ∷ cs)) e

-- what goes with a CR at the end
cr_off : (b c : ℕ) (cs : List ℕ) → no_cr (b ∷ c ∷ cs) ≡ b ∷ no_cr (c ∷ cs)
cr_off b c cs = rw (last_same, front_same) (grind (arith, nat_tests))

-- what an end takes off a line stays off it with a byte before, but for a CR right before the end
end_off : (b c : ℕ) (cs : List ℕ) → (b ≡ 13 → c ≡ 10 → length cs ≡ 0 → ⊥) → without_terminator (b ∷ c ∷ cs) ≡ b ∷ without_terminator (c ∷ cs)
end_off b c [] e = grind (arith, nat_tests)
end_off b c (d ∷ ds) e =
    let off : no_cr (take (length (b ∷ c ∷ d ∷ ds) - 1) (b ∷ c ∷ d ∷ ds)) ≡ b ∷ no_cr (take (length (c ∷ d ∷ ds) - 1) (c ∷ d ∷ ds)) =
    rw (front_same b c (d ∷ ds), front_same c d ds) (cr_off b c (take (length (d ∷ ds) - 1) (d ∷ ds))) in
    let last = last_same b c (d ∷ ds) in
    grind (arith, nat_tests)

-- a byte before others is put before the first of their lines, unless it is the CR of an end
put_over : (b c : ℕ) (cs : List ℕ) → (b ≡ 13 → c ≡ 10 → ⊥)
    → map without_terminator (put_first b (lines_of (c ∷ cs))) ≡ put_first b (map without_terminator (lines_of (c ∷ cs)))
unfolding put_first
put_over b c cs e =
    let n = line_len (c ∷ cs) - 1 in
    let bounds = line_len-bounds (c ∷ cs) (omega arith) in
    let some : line_len (c ∷ cs) ≡ suc n = omega arith in
    let first = lines-step (c ∷ cs) (omega arith) ∙ ap (λ k. take k (c ∷ cs) ∷ lines_of (drop k (c ∷ cs))) some in
    rw first (ap (λ l. l ∷ map without_terminator (lines_of (drop n cs))) (end_off b c (take n cs) (λ cr lf _. e cr lf)))

-- the CR of an end is no byte of its line
cr_over : (b c : ℕ) (cs : List ℕ) → b ≡ 13 → c ≡ 10
    → map without_terminator (put_first b (lines_of (c ∷ cs))) ≡ map without_terminator (lines_of (c ∷ cs))
unfolding put_first
cr_over b c cs cr lf =
    rw (feed_first c cs lf) (grind (arith, nat_tests))

-- the first line, by the first bytes
line_begins : (b c : ℕ) (cs : List ℕ) → (b ≡ 10 → ⊥) → lines (b ∷ c ∷ cs) ≡ cond (b == 13 && c == 10) (lines (c ∷ cs)) (put_first b (lines (c ∷ cs)))
unfolding lines first_is
line_begins b c cs other = cond-false _ _ _ (ne_eqb b 10 other)

-- the line of one byte
line_alone : (b : ℕ) → map without_terminator (lines_of (b ∷ [])) ≡ lines (b ∷ [])
unfolding lines put_first first_is line_len lines_from
line_alone b = grind (arith, nat_tests)

-- the library's lines
pub lines_are : (s : List ℕ) → map without_terminator (lines_of s) ≡ lines s
unfolding lines
lines_are [] = ap (map without_terminator) lines-nil
lines_are (b ∷ []) = line_alone b
lines_are (b ∷ c ∷ cs) =
    let ih = lines_are (c ∷ cs) in
    grind (arith, nat_tests, feed_first b (c ∷ cs), other_first b c cs, put_over b c cs, cr_over b c cs, line_begins b c cs)

-- a part that has a byte
abbrev pub some : List ℕ → Bool
some w = not (eqb (length w) 0)

-- a blank
abbrev pub is_blank : ℕ → Bool
is_blank b = eqb b 32

-- a byte before another one of a word is put before the first word
word_goes_on : (b c : ℕ) (parts : List (List ℕ)) → filter some (onto_first b (onto_first c parts)) ≡ put_first b (filter some (onto_first c parts))
unfolding put_first
word_goes_on b c [] = grind (arith, nat_tests)
word_goes_on b c (p ∷ ps) = grind (arith, nat_tests)

-- the first word, by the first bytes
word_begins : (b c : ℕ) (cs : List ℕ) → is_blank b ≡ false
    → words (b ∷ c ∷ cs) ≡ cond (is_blank c) ((b ∷ []) ∷ words (c ∷ cs)) (put_first b (words (c ∷ cs)))
unfolding words first_is is_empty
word_begins b c cs other = cond-false _ _ _ other

-- the library's words: parts between blanks that have a byte
pub words_are : (s : List ℕ) → filter some (slice_split is_blank s) ≡ words s
unfolding words put_first first_is is_empty
words_are [] = refl
words_are (b ∷ []) = grind (arith, nat_tests)
words_are (b ∷ c ∷ cs) =
    let ih = words_are (c ∷ cs) in
    let goes_on = word_goes_on b c (slice_split is_blank cs) in
    let begins = word_begins b c cs in
    grind (arith, nat_tests)
