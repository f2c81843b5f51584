-- The picture, sign by sign and row by row.
use Rattle.std.proofs.Common.{◌≡◌, ℕ, ◌+◌, List, [], ◌∷◌, ◌++◌, map, sym, ap, ◌∙◌, append_assoc, map-id, arith}
use Rattle.std.specs.List.{range_with_len, flat_map}
use Rattle.std.proofs.lemmas.List.FromFn.{map-range_with_len_more}
use Rattle.std.proofs.lemmas.List.{flat_map_more}

-- a column more, and the end of the row
pub column_more : (s : ℕ → ℕ) (n sign : ℕ) (before old next : List ℕ) → old ≡ before ++ map s (range_with_len 0 n) → sign ≡ s n
    → next ≡ old ++ sign ∷ [] → next ≡ before ++ map s (range_with_len 0 (n + 1))
column_more s n sign before old next so is more =
    more ∙ ap (λ l. l ++ sign ∷ []) so ∙ append_assoc before (map s (range_with_len 0 n)) (sign ∷ [])
    ∙ ap (λ v. before ++ (map s (range_with_len 0 n) ++ v ∷ [])) is
    ∙ ap (λ l. before ++ l) (sym (map-range_with_len_more s 0 n n (omega arith)))

pub row_end : (s : ℕ → ℕ) (n w : ℕ) (before old next : List ℕ) → old ≡ before ++ map s (range_with_len 0 n) → n ≡ w
    → next ≡ old ++ 10 ∷ [] → next ≡ before ++ (map s (range_with_len 0 w) ++ 10 ∷ [])
row_end s n w before old next so all more =
    more ∙ ap (λ l. l ++ 10 ∷ []) so ∙ append_assoc before (map s (range_with_len 0 n)) (10 ∷ [])
    ∙ ap (λ m. before ++ (map s (range_with_len 0 m) ++ 10 ∷ [])) all

-- a row more
pub row_more : (p : ℕ → List ℕ) (n : ℕ) (old next : List ℕ) → old ≡ flat_map p (range_with_len 0 n) → next ≡ old ++ p n
    → next ≡ flat_map p (range_with_len 0 (n + 1))
row_more p n old next so more =
    let one : range_with_len 0 (n + 1) ≡ range_with_len 0 n ++ n ∷ [] =
    sym (map-id (range_with_len 0 (n + 1))) ∙ map-range_with_len_more (λ (x : ℕ). x) 0 n n (omega arith) ∙ ap (λ l. l ++ n ∷ []) (map-id (range_with_len 0 n))
    in
    more ∙ ap (λ l. l ++ p n) so ∙ flat_map_more p [] (range_with_len 0 n) n ∙ ap (flat_map p) (sym one)
