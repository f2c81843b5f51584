-- How a field is read row by row, and a row sign by sign.
use Rattle.std.proofs.Common.{◌≡◌, ℕ, zero, suc, ◌+◌, ◌-◌, ◌<◌, ◌≤◌, min, Bool, not, cond, true, false, ◌&&◌, ◌||◌, eqb, ltb, List, [], ◌∷◌, ◌++◌, length, get_or, take, drop, Some, None, Err, Option, unwrap_or, sym, refl, ap, ◌∙◌, append_assoc, append-nil, zero-add, arith, Bor}
use Rattle.std.specs.List.{list_any, list_all, position_or_len, position, enumerate_from}
use Rattle.std.proofs.Math.Seq.{take-append_seam}
use Rattle.std.proofs.lemmas.List.{length_push, drop_more, drop_all, get_or-map, length-map}
use Rattle.std.proofs.lemmas.Bool.Decides.{nat_tests}
use Rattle.rules.proofs.Tests.{empty_is}
use Rattle.rules.specs.Tests.{among, every}
use Rattle.text.specs.Lines.{pieces}
use Rattle.text.specs.Fields.{row_count, sign_fits, signs_fit, row_fits, misfit, signs, is_led, gap, bays_from, across_of, fault, Tells}
use Rattle.std.specs.Prelude.{MatchResult}
use Rattle.std.specs.Option.{option_map}
use Rattle.field.specs.declared.refusal.Refusal.{Refusal}
use Rattle.field.specs.declared.refusal.Refusal.TheVariants.{Text}
use Rattle.text.specs.declared.failure.Failure.{Failure}
use Rattle.text.specs.declared.failure.Failure.TheVariants.{Refused, Memory}
use Rattle.text.specs.Failures.{UnlessMemory}

-- the library's `contains`
pub among_is : (c : ℕ) (s : List ℕ) → list_any (λ y. eqb y c) s ≡ among c s
unfolding among
among_is c [] = refl
among_is c (b ∷ bs) = grind (arith, nat_tests, among_is c bs)

-- the next piece of those that are left
pub piece_next : (ls : List (Bor (List ℕ))) (i : ℕ) (d : Bor (List ℕ)) → i < length ls
    → drop i (pieces ls) ≡ (get_or ls i d).now ∷ drop (i + 1) (pieces ls)
piece_next ls i d h =
    let long = length-map ls (λ (r : Bor (List ℕ)). r.now) in
    let here = drop_more (pieces ls) i d.now (omega (arith, long)) in
    let is = get_or-map (λ (r : Bor (List ℕ)). r.now) ls i d d.now h in
    here ∙ ap (λ x. x ∷ drop (i + 1) (pieces ls)) is

pub pieces_over : (ls : List (Bor (List ℕ))) (i : ℕ) → length ls ≤ i → drop i (pieces ls) ≡ []
pieces_over ls i h = drop_all i (pieces ls) (omega (arith, length-map ls (λ (r : Bor (List ℕ)). r.now)))

-- the library's `position`, of rows that are lent
pub row_count_is : (ls : List (Bor (List ℕ))) → unwrap_or (position (λ l. eqb (length l.now) 0) ls) (length ls) ≡ row_count (pieces ls)
unfolding row_count
row_count_is [] = refl
row_count_is (l ∷ ls) = let empty = empty_is l.now in let ih = row_count_is ls in grind (arith, nat_tests)

gap_on : (k : ℕ) (all : List ℕ) (rows : List (Bor (List ℕ)))
    → let p = position_or_len (λ r. not (every (is_led all) r.now)) rows in cond (ltb p (length rows)) (Some (k + p)) None ≡ gap k all (pieces rows)
unfolding gap
gap_on k all [] = grind (arith, nat_tests)
gap_on k all (r ∷ rs) = let ih = gap_on (suc k) all rs in grind (arith, nat_tests)

pub gap_is : (all : List ℕ) (rows : List (Bor (List ℕ))) → position (λ r. not (every (is_led all) r.now)) rows ≡ gap 0 all (pieces rows)
gap_is all rows =
    let p = position_or_len (λ r. not (every (is_led all) r.now)) rows in
    ap (λ n. cond (ltb p (length rows)) (Some n) None) (sym (zero-add p)) ∙ gap_on 0 all rows

pub among_both : (c : ℕ) (s t : List ℕ) → among c (s ++ t) ≡ (among c s || among c t)
unfolding among
among_both c [] t = refl
among_both c (b ∷ bs) t = grind (arith, nat_tests, among_both c bs t)

-- each sign of a row fits, as the library's `all` over its places tells
signs_on : (before front row : List ℕ)
    → list_all (λ p. sign_fits (before ++ take p.0 (front ++ row)) p.1) (enumerate_from (length front) row) ≡ signs_fit (before ++ front) row
unfolding signs_fit
signs_on before front [] = refl
signs_on before front (s ∷ row) =
    let fits : (all : List ℕ) → (ℕ × ℕ) → Bool = λ all p. sign_fits (before ++ take p.0 all) p.1 in
    let next = ap (λ n. list_all (fits (front ++ s ∷ row)) (enumerate_from n row)) (sym (length_push front s)) in
    let whole = ap (λ all. list_all (fits all) (enumerate_from (length (front ++ s ∷ [])) row)) (sym (append_assoc front (s ∷ []) row)) in
    let ih = signs_on before (front ++ s ∷ []) row in
    let more = ap (λ l. signs_fit l row) (sym (append_assoc before front (s ∷ []))) in
    ap (λ l. sign_fits (before ++ l) s && list_all (fits (front ++ s ∷ row)) (enumerate_from (length front + 1) row)) (take-append_seam front (s ∷ row))
    ∙ ap (λ t. sign_fits (before ++ front) s && t) (next ∙ whole ∙ ih ∙ more)

pub signs_are : (before row : List ℕ) → list_all (λ p. sign_fits (before ++ take p.0 row) p.1) (enumerate_from 0 row) ≡ signs_fit before row
signs_are before row = signs_on before [] row ∙ ap (λ l. signs_fit l row) (append-nil before)

-- a row more, that fits or not
pub fit_turn : (across : ℕ) (was before next : List ℕ) (rows : List (Bor (List ℕ))) (i : ℕ) (d : Bor (List ℕ)) → i < length rows
    → true ≡ row_fits across was (get_or rows i d).now → was ≡ before → next ≡ before ++ (get_or rows i d).now
    → (misfit across (i + 1) next (drop (i + 1) (pieces rows)) ≡ misfit across i before (drop i (pieces rows)))
    × (next ++ signs (drop (i + 1) (pieces rows)) ≡ before ++ signs (drop i (pieces rows)))
unfolding misfit signs
fit_turn across was before next rows i d h fits same more =
    let first = piece_next rows i d h in
    let joined = append_assoc before (get_or rows i d).now (signs (drop (i + 1) (pieces rows))) in
    (grind (arith, nat_tests), grind (arith, nat_tests))

pub fit_wrong : (across : ℕ) (before : List ℕ) (rows : List (Bor (List ℕ))) (i : ℕ) (d : Bor (List ℕ)) → i < length rows
    → false ≡ row_fits across before (get_or rows i d).now → misfit across i before (drop i (pieces rows)) ≡ Some i
unfolding misfit
fit_wrong across before rows i d h wrong = let first = piece_next rows i d h in grind (arith, nat_tests)

pub rows_over : (across k : ℕ) (before : List ℕ) (rows : List (Bor (List ℕ))) (i : ℕ) → length rows ≤ i
    → (misfit across k before (drop i (pieces rows)) ≡ None) × (before ++ signs (drop i (pieces rows)) ≡ before)
unfolding misfit signs
rows_over across k before rows i h = let over = pieces_over rows i h in (grind (arith, nat_tests), grind (arith, nat_tests, append-nil))

some_mapped : {e : Refusal} (o : Option ℕ) → option_map Text o ≡ Some e → (k : ℕ) × (o ≡ Some k)
some_mapped None told = absurd (cc)
some_mapped (Some k) told = (k, refl)

-- the row at fault, from the first that does not fit and the first gap
pub fault_misfit : {A B : Type 0} (P : A → Type 0) (Q : B → Type 0) (rs : List (List ℕ)) (across : ℕ) (e : Failure) → across ≡ across_of rs
    → UnlessMemory (Err e) (λ r. MatchResult r P (Tells (misfit across 0 [] rs))) → UnlessMemory (Err e) (λ r. MatchResult r Q (Tells (fault rs)))
unfolding fault
fault_misfit P Q rs across (Refused e) same told =
    let found = some_mapped (misfit across 0 [] rs) told in
    let first : fault rs ≡ misfit across 0 [] rs = grind (arith, nat_tests, found.1) in
    ap (option_map Text) first ∙ told
fault_misfit P Q rs across Memory same told = tt

pub fault_gap : (rs : List (List ℕ)) (across : ℕ) (all : List ℕ) (o : Option ℕ) → across ≡ across_of rs → misfit across 0 [] rs ≡ None
    → all ≡ signs rs → gap 0 all rs ≡ o → fault rs ≡ o
unfolding fault
fault_gap rs across all o same fits are here = grind (arith, nat_tests)

-- a sign stands somewhere exactly if it has a first place
pub among_place : (c : ℕ) (s : List ℕ) → ltb (position_or_len (λ b. eqb b c) s) (length s) ≡ among c s
unfolding among
among_place c [] = refl
among_place c (b ∷ bs) = grind (arith, nat_tests, among_place c bs)

-- the square of one letter more, or none
pub bay_more : (before next all : List ℕ) (c k u : ℕ) → c < 113 → position (λ s. eqb s c) all ≡ Some k → u ≡ min k 65535 → next ≡ before ++ u ∷ []
    → next ++ bays_from (113 - (c + 1)) (c + 1) all ≡ before ++ bays_from (113 - c) c all
unfolding bays_from
bay_more before next all c k u h is least more =
    let there = among_place c all in
    let one : 113 - c ≡ suc (113 - (c + 1)) = omega arith in
    grind (arith, nat_tests, append_assoc before (u ∷ []) (bays_from (113 - (c + 1)) (c + 1) all))

pub bay_none : (n c : ℕ) (all : List ℕ) → position (λ s. eqb s c) all ≡ None → bays_from n c all ≡ []
unfolding bays_from
bay_none zero c all is = refl
bay_none (suc n) c all is = let there = among_place c all in grind (arith, nat_tests)

pub bays_over : (n c : ℕ) (all : List ℕ) → n ≡ 0 → bays_from n c all ≡ []
unfolding bays_from
bays_over zero c all e = refl
bays_over (suc n) c all e = absurd (omega arith)
