-- Numbers, squares and counts of ticks as words.
use Rattle.std.specs.Prelude.{ℕ, ◌+◌, ◌-◌, ◌*◌, min, cond, ◌&&◌, List, [], ◌∷◌, length, take, drop, position, Some, None, Option, ◌==◌, nat_le}
use Rattle.std.specs.Char.{is_ascii_digit}
use Rattle.session.specs.declared.numbers.Place.{Place}
use Rattle.session.specs.declared.numbers.Ticks.{Ticks}

-- the number that digits stand for, after those before them; a larger one than 65,535 is told as that, since it is past every
-- field and every range all the same
unfoldable pub number_after : (before : ℕ) → (digits : List ℕ) → Option ℕ
number_after n [] = Some n
number_after n (b ∷ bs) = cond (is_ascii_digit b) (number_after (min (10 * n + (b - 48)) 65535) bs) None

-- a word of one or more digits
unfoldable pub number_in : List ℕ → Option ℕ
number_in w = cond (length w == 0) None (number_after 0 w)

-- a square by these numbers
abbrev pub place_of : (column row : Option ℕ) → Option Place
place_of (Some c) (Some r) = Some (record { column = c; row = r })
place_of (Some c) None = None
place_of None r = None

-- a square by the signs before the first comma and those behind it
abbrev pub place_by : List ℕ → (comma : Option ℕ) → Option Place
place_by w None = None
place_by w (Some k) = place_of (number_in (take k w)) (number_in (drop (k + 1) w))

-- a square: column and row with a comma (44) between
abbrev pub place_in : List ℕ → Option Place
place_in w = place_by w (position (λ b. b == 44) w)

-- ticks, 1 to 10,000, and after how many of them an arrival is due, 1 to 1,000
abbrev pub ticks_within : (count due : ℕ) → Option Ticks
ticks_within n d = cond (nat_le 1 n && nat_le n 10000 && nat_le 1 d && nat_le d 1000) (Some (record { count = n; due = d })) None

-- ticks by these numbers
abbrev pub ticks_of : (count due : Option ℕ) → Option Ticks
ticks_of (Some n) (Some d) = ticks_within n d
ticks_of (Some n) None = None
ticks_of None d = None

-- ticks by two words
abbrev pub ticks_in : (count due : List ℕ) → Option Ticks
ticks_in count due = ticks_of (number_in count) (number_in due)
