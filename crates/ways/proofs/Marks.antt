-- Marking the squares of a field in a table, one after the other: those that are free, and of these those that are nobody's bay.
use Rattle.std.proofs.Common.{◌≡◌, ℕ, ◌+◌, ◌*◌, ◌<◌, Bool, true, false, cond, not, ◌&&◌, ◌||◌, eqb, ltb, List, length, set, sym, ap, ◌∙◌, ⊎_elim, add-one, arith}
use Rattle.std.proofs.lemmas.List.{get_or-set_same, get_or-set_other}
use Rattle.std.proofs.lemmas.Bool.{cases_eq, eq-eqb, ne_eqb, or_left}
use Rattle.std.proofs.lemmas.Bool.Decides.{nat_tests}
use Rattle.rules.specs.Tests.{any_to}
use Rattle.rules.specs.Field.{Field, free_square, is_bay, is_bay_to}
use Rattle.rules.proofs.Tests.{any_to_more}
use Rattle.ways.specs.Distances.{distance_in, Ground, is_open}

-- a table with one mark for the squares that pass a test and another for those that do not
abbrev pub Marks : (ℕ → Bool) → List ℕ → Type 0
Marks p table = (x : ℕ) → distance_in table x ≡ cond (p x) 65535 65534

-- another test that the same squares pass has the same table
pub marks_like : (p q : ℕ → Bool) (table : List ℕ) → ((x : ℕ) → q x ≡ p x) → Marks p table → Marks q table
marks_like p q table same m x = m x ∙ ap (λ (b : Bool). cond b 65535 65534) (sym (same x))

-- a square is marked by a test that tells the same of every other square
pub marks_set :
    (p q : ℕ → Bool) (table : List ℕ) (k v : ℕ) → k < length table → v ≡ cond (q k) 65535 65534 → ((x : ℕ) → (x ≡ k → ⊥) → q x ≡ p x)
    → Marks p table → Marks q (set table k v)
marks_set p q table k v l e same m x =
    ⊎_elim
    (λ (y : x ≡ k). ap (distance_in (set table k v)) y ∙ (get_or-set_same table k v 65534 l ∙ (e ∙ ap (λ (z : ℕ). cond (q z) 65535 65534) (sym y))))
    (λ ne. get_or-set_other table k x v 65534 ne ∙ (m x ∙ ap (λ (b : Bool). cond b 65535 65534) (sym (same x ne))))
    (cases_eq x k)

-- the free squares below k
abbrev pub free_below : Field → ℕ → ℕ → Bool
free_below f k x = ltb x k && free_square f x

pub free_none : (f : Field) (table : List ℕ) → ((x : ℕ) → distance_in table x ≡ 65534) → Marks (free_below f 0) table
free_none f table h x = h x ∙ grind (arith, nat_tests)

free_off : (f : Field) (k x : ℕ) → (x ≡ k → ⊥) → free_below f (k + 1) x ≡ free_below f k x
free_off f k x ne = grind (arith, nat_tests)

pub free_more :
    (f : Field) (table : List ℕ) (k v : ℕ) → k < length table → v ≡ cond (free_square f k) 65535 65534 → Marks (free_below f k) table
    → Marks (free_below f (k + 1)) (set table k v)
free_more f table k v l e m = marks_set (free_below f k) (free_below f (k + 1)) table k v l (grind (arith, nat_tests)) (free_off f k) m

-- a square that is not free changes nothing in the table
pub free_not : (f : Field) (table : List ℕ) (k : ℕ) → free_square f k ≡ false → Marks (free_below f k) table → Marks (free_below f (k + 1)) table
free_not f table k h m =
    marks_like (free_below f k) (free_below f (k + 1)) table
    (λ x. ⊎_elim (λ (e : x ≡ k). let z : free_square f x ≡ false = ap (free_square f) e ∙ h in grind (arith, nat_tests)) (λ ne. free_off f k x ne) (cases_eq x k)) m

-- the free squares that are none of the first j bays
abbrev pub open_to : Field → ℕ → ℕ → Bool
open_to f j x = free_square f x && not (is_bay_to f j x)

pub open_none : (f : Field) (table : List ℕ) (n : ℕ) → n ≡ f.across * f.down → Marks (free_below f n) table → Marks (open_to f 0) table
unfolding is_bay_to any_to free_square
open_none f table n e m = marks_like (free_below f n) (open_to f 0) table (λ x. grind (arith, nat_tests)) m

bay_more : (f : Field) (j x : ℕ) → is_bay_to f (j + 1) x ≡ (eqb (f.bay j) x || is_bay_to f j x)
unfolding is_bay_to
bay_more f j x = rw add-one (any_to_more (λ i. eqb (f.bay i) x) j)

pub open_more :
    (f : Field) (table : List ℕ) (j b : ℕ) → b ≡ f.bay j → b < length table → Marks (open_to f j) table → Marks (open_to f (j + 1)) (set table b 65534)
open_more f table j b e l m =
    marks_set (open_to f j) (open_to f (j + 1)) table b 65534 l
    (let z : is_bay_to f (j + 1) b ≡ true = bay_more f j b ∙ or_left (eqb (f.bay j) b) (is_bay_to f j b) (eq-eqb (f.bay j) b (sym e)) in grind (arith, nat_tests))
    (λ x ne. let z : is_bay_to f (j + 1) x ≡ is_bay_to f j x = bay_more f j x ∙ ap (λ (y : Bool). y || is_bay_to f j x) (ne_eqb (f.bay j) x (λ q. ne (sym q ∙ sym e))) in
    ap (λ (y : Bool). free_square f x && not y) z)
    m

pub open_all : (f : Field) (table : List ℕ) (j : ℕ) → j ≡ f.shuttles → Marks (open_to f j) table → Ground f table
unfolding is_open is_bay
open_all f table j e m = marks_like (open_to f j) (is_open f) table (λ x. ap (λ (n : ℕ). free_square f x && not (is_bay_to f n x)) (sym e)) m
