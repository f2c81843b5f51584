-- A line of a route, whose it is, and what it is judged to be.
use Rattle.std.specs.Prelude.{ℕ, ◌-◌, Bool, cond, ◌&&◌, List, length, drop, Some, None, Ok, Err, Option, Result, ◌==◌, nat_le, nat_lt, slice_index}
use Rattle.rules.specs.Field.{Field}
use Rattle.field.specs.declared.direction.Direction.{Direction}
use Rattle.field.specs.declared.refusal.Refusal.{Refusal}
use Rattle.field.specs.declared.refusal.Refusal.TheVariants.{Event, Text}
use Rattle.route.specs.Judged.{verdict}
use Rattle.text.specs.declared.answers.Judgement.{Judgement}
use Rattle.text.specs.Fields.{is_letter}
use Rattle.text.specs.Routes.{ways_in, squares_of}

-- a prefix: the letter of a shuttle and exactly one blank (32)
abbrev pub prefixed : List ℕ → Bool
prefixed line = is_letter (slice_index line 0) && slice_index line 1 == 32

-- whose route it is: the prefix's shuttle's, or else that of shuttle k
abbrev pub shuttle_of : (k : ℕ) → (line : List ℕ) → ℕ
shuttle_of k line = cond (prefixed line) (slice_index line 0 - 97) k

-- the letters of the route: what follows the prefix, or else all
abbrev pub letters_of : (line : List ℕ) → List ℕ
letters_of line = cond (prefixed line) (drop 2 line) line

-- ways from the bay of shuttle i, that isn't there or whose ways are too many, or that are judged as squares; without ways the line at `place` can't be read
unfoldable pub judged_ways : Field → (place i : ℕ) → Option (List Direction) → Result Judgement Refusal
judged_ways f place i None = Err (Text place)
judged_ways f place i (Some ways) =
    cond (nat_lt i f.shuttles && nat_le (length ways) 256)
    (Ok (record { 0 = verdict f i (f.bay i) (squares_of f (f.bay i) ways) })) (Err Event)

-- the k-th line of the rest, which is the line at `place` of the whole text
abbrev pub judged_line : Field → (place k : ℕ) → (line : List ℕ) → Result Judgement Refusal
judged_line f place k line = judged_ways f place (shuttle_of k line) (ways_in (letters_of line))
