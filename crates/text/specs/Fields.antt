-- A field as rows of signs: a dot for a free square, # for a wall, letters a to p for the bays of shuttles 0 to 15.
use Rattle.std.specs.Prelude.{◌≡◌, ℕ, zero, suc, ◌-◌, min, Bool, true, cond, not, ◌&&◌, ◌||◌, List, [], ◌∷◌, ◌++◌, length, Some, None, Option, ◌==◌, nat_le}
use Rattle.std.specs.List.{prefix_len}
use Rattle.rules.specs.Tests.{is_empty, among, every}
use Rattle.std.specs.Option.{option_map}
use Rattle.field.specs.declared.refusal.Refusal.{Refusal}
use Rattle.field.specs.declared.refusal.Refusal.TheVariants.{Text}

-- the rows of a field are the lines before the first empty one
unfoldable pub row_count : List (List ℕ) → ℕ
row_count [] = 0
row_count (l ∷ ls) = cond (is_empty l) 0 (suc (row_count ls))

-- how many squares the field is across: as many as its first row has signs
abbrev pub across_of : List (List ℕ) → ℕ
across_of [] = 0
across_of (r ∷ rs) = length r

-- all signs, row by row
unfoldable pub signs : List (List ℕ) → List ℕ
signs [] = []
signs (r ∷ rs) = r ++ signs rs

-- a letter of a bay
abbrev pub is_letter : ℕ → Bool
is_letter s = nat_le 97 s && nat_le s 112

abbrev pub is_sign : ℕ → Bool
is_sign s = s == 46 || (s == 35 || is_letter s)

-- a sign fits after the signs before it: it is one, and no letter that stood before
unfoldable pub sign_fits : (before : List ℕ) → ℕ → Bool
sign_fits before s = is_sign s && not (is_letter s && among s before)

unfoldable pub signs_fit : (before row : List ℕ) → Bool
signs_fit before [] = true
signs_fit before (s ∷ row) = sign_fits before s && signs_fit (before ++ s ∷ []) row

-- a row fits after the signs before it: it is as long as the first, and its signs fit
unfoldable pub row_fits : (across : ℕ) → (before row : List ℕ) → Bool
row_fits across before row = length row == across && signs_fit before row

-- the first row, counted on from k, that does not fit
unfoldable pub misfit : (across k : ℕ) → (before : List ℕ) → List (List ℕ) → Option ℕ
misfit across k before [] = None
misfit across k before (r ∷ rs) = cond (row_fits across before r) (misfit across (suc k) (before ++ r) rs) (Some k)

-- a letter other than a stands somewhere behind its forerunner: b behind a, c behind b
unfoldable pub is_led : (all : List ℕ) → ℕ → Bool
is_led all s = not (is_letter s) || (s == 97 || among (s - 1) all)

-- the first row, counted on from k, with a letter whose forerunner is missing
unfoldable pub gap : (k : ℕ) → (all : List ℕ) → List (List ℕ) → Option ℕ
gap k all [] = None
gap k all (r ∷ rs) = cond (every (is_led all) r) (gap (suc k) all rs) (Some k)

abbrev pub or_else : Option ℕ → Option ℕ → Option ℕ
or_else None other = other
or_else (Some k) other = Some k

-- the row that is at fault: the first that does not fit; only if there is none, the first with a letter whose forerunner is missing
unfoldable pub fault : List (List ℕ) → Option ℕ
fault rs = or_else (misfit (across_of rs) 0 [] rs) (gap 0 (signs rs) rs)

-- marks of walls
abbrev pub wall_mark : ℕ → ℕ
wall_mark s = cond (s == 35) 1 0

-- the square where a sign stands first
abbrev pub place : ℕ → List ℕ → ℕ
place c all = prefix_len (λ s. not (s == c)) all

-- the squares of the next n letters from c on, as far as they stand there. A square past 65535 is told as 65535: a field so large is none
unfoldable pub bays_from : (n c : ℕ) → List ℕ → List ℕ
bays_from zero c all = []
bays_from (suc n) c all = cond (among c all) (min (place c all) 65535 ∷ bays_from n (suc c) all) []

-- rows are turned away for the row at fault
abbrev pub Tells : Option ℕ → Refusal → Type 0
Tells at refusal = option_map Text at ≡ Some refusal
