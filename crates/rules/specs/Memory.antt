-- The numbers that the entry is lent: a field, memory of 260 numbers a shuttle, an event; and what is turned away.
use Rattle.std.specs.Prelude.{ℕ, zero, suc, ◌+◌, ◌*◌, Bool, cond, ◌&&◌, List, ◌∷◌, ◌++◌, length, take, drop, ◌==◌, nat_le, nat_lt, slice_index}
use Rattle.rules.specs.Tests.{every_to, every}
use Rattle.rules.specs.Field.{Field, sound}
use Rattle.rules.specs.Shuttle.{Shuttle, at_home}
use Rattle.rules.specs.Event.{Event, order, step, arrive}

-- a field in numbers, as it is lent: so many squares across and down, a mark for each square, row by row, and each shuttle's bay
pub record FieldNumbers : Type 0 where
  pub across : ℕ
  pub down : ℕ
  pub walls : List ℕ
  pub bays : List ℕ

-- these numbers, in the order in which they are handed over
abbrev pub field_numbers : (across down : ℕ) → (walls bays : List ℕ) → FieldNumbers
field_numbers a d ws bs = record { across = a; down = d; walls = ws; bays = bs }

-- the field that they are: a mark of 1 is a wall, and bay i is shuttle i's
unfoldable pub field_in : FieldNumbers → Field
field_in lent =
    record {
      across = lent.across;
      down = lent.down;
      wall = λ c. slice_index lent.walls c == 1;
      shuttles = length lent.bays;
      bay = λ i. slice_index lent.bays i;
    }

-- a field that is accepted: at most 64 across and down, a mark of 0 or 1 for each square, at most 16 bays, and sound
unfoldable pub field_ok : FieldNumbers → Bool
field_ok lent =
    nat_le lent.across 64 && (nat_le lent.down 64 && (length lent.walls == lent.across * lent.down
    && (every (λ w. nat_le w 1) lent.walls && (nat_le (length lent.bays) 16 && sound (field_in lent)))))

-- memory: of each shuttle its square, 1 if it moves, the square behind, how long what is left is, and 256 places for what is left
unfoldable pub shuttle_in : List ℕ → ℕ → Shuttle
shuttle_in m i =
    record {
      at = slice_index m (260 * i);
      moving = slice_index m (260 * i + 1) == 1;
      behind = slice_index m (260 * i + 2);
      route = take (slice_index m (260 * i + 3)) (drop (260 * i + 4) m);
    }

-- the numbers of shuttle i are accepted: a mark of at most 1, at most 256 squares left, and no square outside a field of so many squares; places that aren't needed are not read
unfoldable pub shuttle_ok : ℕ → List ℕ → ℕ → Bool
shuttle_ok squares m i =
    nat_le (slice_index m (260 * i + 1)) 1 && (nat_le (slice_index m (260 * i + 3)) 256
    && (nat_lt (slice_index m (260 * i)) squares && (nat_lt (slice_index m (260 * i + 2)) squares
    && every (λ c. nat_lt c squares) (take (slice_index m (260 * i + 3)) (drop (260 * i + 4) m)))))

-- memory that is accepted for the shuttles and the squares of a field
unfoldable pub memory_ok : FieldNumbers → List ℕ → Bool
memory_ok lent m = length m == 260 * length lent.bays && every_to (shuttle_ok (lent.across * lent.down) m) (length lent.bays)

-- an event in numbers that is accepted: a kind of 0 to 2, a shuttle that is there, a route of at most 256 squares, none above 4095
unfoldable pub event_ok : (n kind shuttle : ℕ) → List ℕ → Bool
event_ok n kind i r = nat_le kind 2 && (nat_lt i n && (nat_le (length r) 256 && every (λ c. nat_le c 4095) r))

-- the event of kind 0 an order, 1 a step, 2 an arrival
unfoldable pub event_in : (kind shuttle : ℕ) → List ℕ → Event
event_in zero i r = order i r
event_in (suc zero) i r = step i
event_in (suc (suc k)) i r = arrive i

-- the number by which a call is turned away, the first that applies: 1 the field, 2 memory, 3 the event; 0 if it is not
unfoldable pub refusal : FieldNumbers → (memory : List ℕ) → (kind shuttle : ℕ) → (route : List ℕ) → ℕ
refusal lent m kind i r = cond (field_ok lent) (cond (memory_ok lent m) (cond (event_ok (length lent.bays) kind i r) 0 3) 2) 1

-- 1 for a shuttle that moves, else 0
unfoldable pub mark : Bool → ℕ
mark moving = cond moving 1 0

-- the numbers of a shuttle, as far as they are needed
unfoldable pub numbers_of : Shuttle → List ℕ
numbers_of s = s.at ∷ mark s.moving ∷ s.behind ∷ length s.route ∷ s.route

-- memory with the numbers of shuttle i written; every other place stays as it was
unfoldable pub stored : List ℕ → ℕ → Shuttle → List ℕ
stored m i s = take (260 * i) m ++ (numbers_of s ++ drop (260 * i + length (numbers_of s)) m)

-- memory with the first n shuttles written at home
unfoldable pub started : Field → ℕ → List ℕ → List ℕ
started f zero m = m
started f (suc n) m = stored (started f n m) n (at_home f n)
