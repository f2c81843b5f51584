-- Refusals: their numbers, and what is printed of them.
use Rattle.std.specs.Prelude.{ℕ, List, ◌++◌, codes, decimal}
use Rattle.field.specs.declared.refusal.Refusal.{Refusal}
use Rattle.field.specs.declared.refusal.Refusal.TheVariants.{Field, Memory, Event, Text, Way, Tick}

-- the number by which a call is turned away
abbrev pub number_of : Refusal → ℕ
number_of Field = 1
number_of Memory = 2
number_of Event = 3
number_of (Text line) = 4
number_of Way = 5
number_of Tick = 6

-- a refusal is told by its number; a text that can't be read by its line too
abbrev pub refusal_text : Refusal → List ℕ
refusal_text Field = codes "refused 1"
refusal_text Memory = codes "refused 2"
refusal_text Event = codes "refused 3"
refusal_text (Text line) = codes "refused 4 at " ++ decimal line
refusal_text Way = codes "refused 5"
refusal_text Tick = codes "refused 6"
