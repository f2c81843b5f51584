-- Directions: their order, their letters, and the square that each leads to.
use Rattle.std.specs.Prelude.{◌≡◌, ℕ, suc, ◌+◌, ◌-◌, ◌*◌, ◌%◌, ◌<◌, true, cond, ◌&&◌, Some, None, Option, MatchResult, Result, ◌==◌, nat_le, nat_lt}
use Rattle.rules.specs.Field.{Field, beside}
use Rattle.field.specs.declared.direction.Direction.{Direction}
use Rattle.field.specs.declared.direction.Direction.TheVariants.{Right, Down, Left, Up}
use Rattle.field.specs.declared.direction.OtherLetter.{OtherLetter}

-- the order in which ways compare directions
abbrev pub rank : Direction → ℕ
rank Right = 0
rank Down = 1
rank Left = 2
rank Up = 3

-- the letter of a direction: r, d, l, u
abbrev pub letter_of : Direction → ℕ
letter_of Right = 114
letter_of Down = 100
letter_of Left = 108
letter_of Up = 117

-- the direction that a letter stands for; every other letter stands for none
abbrev pub direction_of : (letter : ℕ) → Option Direction
direction_of x = cond (x == 114) (Some Right) (cond (x == 100) (Some Down) (cond (x == 108) (Some Left) (cond (x == 117) (Some Up) None)))

-- what is read of a letter
abbrev pub ReadsLetter : (letter : ℕ) → Result Direction OtherLetter → Type 0
ReadsLetter x r = MatchResult r (λ d. direction_of x ≡ Some d) (λ _. direction_of x ≡ None)

-- the square that a direction leads to from square c; none past the edge of the field
abbrev pub next : Field → ℕ → Direction → Option ℕ
next f c Right = cond (nat_lt (c % f.across + 1) f.across && nat_lt (c + 1) (f.across * f.down)) (Some (c + 1)) None
next f c Down = cond (nat_lt (c + f.across) (f.across * f.down)) (Some (c + f.across)) None
next f c Left = cond (nat_lt 0 (c % f.across)) (Some (c - 1)) None
next f c Up = cond (nat_le f.across c) (Some (c - f.across)) None

-- the direction from square c to a square d beside it
abbrev pub direction_to : Field → (c d : ℕ) → Direction
direction_to f c d = cond (c + f.across == d) Down (cond (suc c == d) Right (cond (d + f.across == c) Up Left))

-- of two squares of the field one is beside the other exactly if a direction leads there, and then it is the one above
abbrev pub LeadsBeside : Field → Type 0
LeadsBeside f =
    (c e : ℕ) → c < f.across * f.down → e < f.across * f.down
    → ((d : Direction) → next f c d ≡ Some e → beside f c e ≡ true) × (beside f c e ≡ true → next f c (direction_to f c e) ≡ Some e)
