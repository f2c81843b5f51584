-- What is answered to a way that is asked for.
use Rattle.std.specs.Prelude.{◌≡◌, ℕ, ◌+◌, ◌*◌, ◌<◌, ◌≤◌, true, false, cond, ◌&&◌, ◌⊎◌, List, [], ◌∷◌, length, Some, None, Ok, Err, vec_items, Option, Result, Vec, nat_lt, slice_index}
use Rattle.std.specs.Global.{Global}
use Rattle.rules.specs.Field.{Field}
use Rattle.rules.specs.Memory.{FieldNumbers, field_in}
use Rattle.ways.specs.Asked.{asked_ok}
use Rattle.ways.specs.Shortest.{Shortest, Nowhere}
use Rattle.field.specs.Directions.{letter_of, direction_to}
use Rattle.field.specs.declared.refusal.Refusal.{Refusal}
use Rattle.field.specs.declared.refusal.Refusal.TheVariants.{Event, Way}
use Rattle.text.specs.Gathered.{gathered}
use Rattle.session.specs.declared.numbers.Place.{Place}

-- the letters of a route from square c
unfoldable pub letters_of : Field → (c : ℕ) → (route : List ℕ) → List ℕ
letters_of f c [] = []
letters_of f c (e ∷ es) = letter_of (direction_to f c e) ∷ letters_of f e es

-- the number of a square of the field; none of one outside
abbrev pub square_at : Field → Place → Option ℕ
square_at f p = cond (nat_lt p.column f.across && nat_lt p.row f.down) (Some (p.row * f.across + p.column)) None

abbrev pub squares_at : Field → List Place → Option (List ℕ)
squares_at f places = gathered (square_at f) [] places

-- the bay of shuttle i
abbrev pub bay_of : FieldNumbers → ℕ → ℕ
bay_of lent i = slice_index lent.bays i

-- a row of squares through which a way of shuttle i from its bay may be asked for
abbrev pub MayAsk : FieldNumbers → (i : ℕ) → List Place → (row : List ℕ) → Type 0
MayAsk lent i places row =
    (i < length lent.bays) × (squares_at (field_in lent) places ≡ Some row) × (asked_ok (field_in lent) i (bay_of lent i) row 256 ≡ true)

-- a square is outside the field, or the row may not be asked for
abbrev pub MayNotAsk : FieldNumbers → (i : ℕ) → List Place → Type 0
MayNotAsk lent i places =
    (squares_at (field_in lent) places ≡ None)
    ⊎ ((row : List ℕ) × (squares_at (field_in lent) places ≡ Some row) × (asked_ok (field_in lent) i (bay_of lent i) row 256 ≡ false))

-- a way of shuttle i through these squares is told: the letters of the first of the shortest routes from its bay, or that there is none;
-- or it is turned away, since there is no such shuttle, or a square is outside the field or they are too many
abbrev pub Told : FieldNumbers → (i : ℕ) → List Place → Result (Option (Vec ℕ Global)) Refusal → Type 0
Told lent i places (Ok (Some v)) =
    (row : List ℕ) × MayAsk lent i places row
    × ((r : List ℕ) × Shortest (field_in lent) i (bay_of lent i) row r × (vec_items v ≡ letters_of (field_in lent) (bay_of lent i) r))
Told lent i places (Ok None) = (row : List ℕ) × MayAsk lent i places row × Nowhere (field_in lent) i (bay_of lent i) row
Told lent i places (Err r) = ((r ≡ Event) × (length lent.bays ≤ i)) ⊎ ((r ≡ Way) × (i < length lent.bays) × MayNotAsk lent i places)
