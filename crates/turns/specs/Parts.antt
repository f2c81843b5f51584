-- Parts of a field: the connected parts of its free squares without the bays, and fields in which each touches at most two bays.
use Rattle.std.specs.Prelude.{◌≡◌, ℕ, zero, suc, ◌*◌, ◌<◌, Bool, true, cond, not, ◌&&◌, ◌||◌, ◌⊎◌, ◌↔◌, List, map, ◌==◌, slice_index}
use Rattle.std.specs.List.{range_with_len}
use Rattle.rules.specs.Tests.{every_to, any_to}
use Rattle.rules.specs.Field.{Field, is_bay, free_square, beside}

-- a free square that is no bay
unfoldable pub open_square : Field → ℕ → Bool
open_square f c = free_square f c && not (is_bay f c)

-- two open squares beside each other
unfoldable pub linked : Field → ℕ → ℕ → Bool
linked f c d = open_square f c && (open_square f d && beside f c d)

-- two squares are in one part: there is a way between them over open squares
pub data Connected (f : Field) : ℕ → ℕ → Type 0 where
  itself : (c : ℕ) → Connected f c c
  link : (c d : ℕ) → linked f c d ≡ true → Connected f c d
  back : (c d : ℕ) → Connected f c d → Connected f d c
  chain : (c d e : ℕ) → Connected f c d → Connected f d e → Connected f c e

-- open square c is beside the bay of shuttle i
unfoldable pub at_bay : Field → ℕ → ℕ → Bool
at_bay f i c = open_square f c && beside f (f.bay i) c

-- each part touches at most two bays: of three shuttles whose bays touch one part, two are the same
abbrev pub AtMostTwo : Field → Type 0
AtMostTwo f =
    (i j k c d e : ℕ) → i < f.shuttles → j < f.shuttles → k < f.shuttles → at_bay f i c ≡ true → at_bay f j d ≡ true → at_bay f k e ≡ true
    → Connected f c d → Connected f d e → (i ≡ j) ⊎ ((i ≡ k) ⊎ (j ≡ k))

-- The same by trying, over a list that has for each square the number of its part; at first each square has its own.

-- if c and d are linked, all with d's number get c's
unfoldable pub joined : Field → (c d : ℕ) → List ℕ → List ℕ
joined f c d ps = cond (linked f c d) (map (λ p. cond (p == slice_index ps d) (slice_index ps c) p) ps) ps

-- c joined with each square below d
unfoldable pub joined_row : Field → (c d : ℕ) → List ℕ → List ℕ
joined_row f c zero ps = ps
joined_row f c (suc d) ps = joined f c d (joined_row f c d ps)

-- each square below c joined with each below d
unfoldable pub joined_all : Field → (c d : ℕ) → List ℕ → List ℕ
joined_all f zero d ps = ps
joined_all f (suc c) d ps = joined_row f c d (joined_all f c d ps)

-- the number of the part that each square is in
unfoldable pub parts : Field → List ℕ
parts f = joined_all f (f.across * f.down) (f.across * f.down) (range_with_len 0 (f.across * f.down))

-- with these numbers, the bay of shuttle i touches part p
unfoldable pub touches : Field → List ℕ → (i p : ℕ) → Bool
touches f ps i p = any_to (λ c. at_bay f i c && slice_index ps c == p) (f.across * f.down)

-- three do not all touch part p, or two of them are the same
unfoldable pub not_three : Field → List ℕ → (i j k p : ℕ) → Bool
not_three f ps i j k p = i == j || (i == k || j == k) || not (touches f ps i p && (touches f ps j p && touches f ps k p))

-- so for every three shuttles and every square's part
unfoldable pub never_three : Field → List ℕ → Bool
never_three f ps =
    every_to (λ i. every_to (λ j. every_to (λ k. every_to (λ c. not_three f ps i j k (slice_index ps c)) (f.across * f.down))
    f.shuttles) f.shuttles) f.shuttles

-- no part touches three bays
unfoldable pub at_most_two : Field → Bool
at_most_two f = never_three f (parts f)

-- the parts are found: two squares have one number exactly if they are in one part
abbrev pub PartsAreFound : Type 0
PartsAreFound =
    (f : Field) (c d : ℕ) → c < f.across * f.down → d < f.across * f.down → (slice_index (parts f) c ≡ slice_index (parts f) d) ↔ Connected f c d

-- and trying is right
abbrev pub AtMostTwoIsFound : Type 0
AtMostTwoIsFound = (f : Field) → (at_most_two f ≡ true) ↔ AtMostTwo f
