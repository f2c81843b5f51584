-- Which fields, shuttles and events in numbers are accepted, how memory is read and written, and which refusal comes first.
use Rattle.std.specs.Prelude.{◌≡◌, ℕ, zero, suc, true, false, List, [], ◌∷◌, ◌++◌}
use Rattle.rules.specs.Memory.{field_numbers, field_ok, shuttle_in, shuttle_ok, memory_ok, event_ok, refusal, stored}
use Rattle.examples.specs.Hall.{standing}

-- so many zeros
unfoldable pub zeros : ℕ → List ℕ
zeros zero = []
zeros (suc n) = 0 ∷ zeros n

-- sixteen bays, at 0 to 15
abbrev pub sixteen : List ℕ
sixteen = 0 ∷ 1 ∷ 2 ∷ 3 ∷ 4 ∷ 5 ∷ 6 ∷ 7 ∷ 8 ∷ 9 ∷ 10 ∷ 11 ∷ 12 ∷ 13 ∷ 14 ∷ 15 ∷ []

-- a field is accepted, or not
pub record SomeFields : Type 0 where
  -- one square and nobody there
  pub smallest : field_ok (field_numbers 1 1 (0 ∷ []) []) ≡ true
  -- 64 across with sixteen shuttles, and 64 down
  pub wide : field_ok (field_numbers 64 1 (zeros 64) sixteen) ≡ true
  pub deep : field_ok (field_numbers 1 64 (zeros 64) []) ≡ true
  -- no square
  pub none_across : field_ok (field_numbers 0 1 [] []) ≡ false
  pub none_down : field_ok (field_numbers 1 0 [] []) ≡ false
  -- more than 64, whatever its marks and bays
  pub too_wide : (d : ℕ) (ws bs : List ℕ) → field_ok (field_numbers 65 d ws bs) ≡ false
  pub too_deep : (ws bs : List ℕ) → field_ok (field_numbers 1 65 ws bs) ≡ false
  -- a mark missing, a mark too many, another mark
  pub mark_missing : field_ok (field_numbers 2 1 (0 ∷ []) []) ≡ false
  pub mark_too_many : field_ok (field_numbers 2 1 (0 ∷ 0 ∷ 0 ∷ []) []) ≡ false
  pub other_mark : field_ok (field_numbers 1 1 (2 ∷ []) []) ≡ false
  -- seventeen bays, a bay that is a wall, one outside, one of two shuttles
  pub seventeen : field_ok (field_numbers 64 1 (zeros 64) (16 ∷ sixteen)) ≡ false
  pub bay_on_a_wall : field_ok (field_numbers 2 1 (0 ∷ 1 ∷ []) (1 ∷ [])) ≡ false
  pub bay_outside : field_ok (field_numbers 2 1 (0 ∷ 0 ∷ []) (2 ∷ [])) ≡ false
  pub bay_of_two : field_ok (field_numbers 2 1 (0 ∷ 0 ∷ []) (0 ∷ 0 ∷ [])) ≡ false

-- the numbers of a shuttle are accepted, or not, on three squares; how they are read and written
pub record SomeMemory : Type 0 where
  -- it moves from 0 to 1 with 2 and 0 left; the place after them is not read
  pub is_read : shuttle_in (1 ∷ 1 ∷ 0 ∷ 2 ∷ 2 ∷ 0 ∷ 9 ∷ []) 0 ≡ record { at = 1; moving = true; behind = 0; route = 2 ∷ 0 ∷ [] }
  pub is_accepted : shuttle_ok 3 (1 ∷ 1 ∷ 0 ∷ 2 ∷ 2 ∷ 0 ∷ 9 ∷ []) 0 ≡ true
  -- the numbers of shuttle 1 begin at 260
  pub next_one : shuttle_in (zeros 260 ++ (1 ∷ 0 ∷ 1 ∷ 1 ∷ 2 ∷ [])) 1 ≡ standing 1 (2 ∷ [])
  -- a mark above 1; its square, the one behind or one of what is left outside; more than 256 left
  pub other_mark : shuttle_ok 3 (1 ∷ 2 ∷ 1 ∷ 0 ∷ []) 0 ≡ false
  pub outside : shuttle_ok 3 (3 ∷ 0 ∷ 1 ∷ 0 ∷ []) 0 ≡ false
  pub behind_outside : shuttle_ok 3 (1 ∷ 0 ∷ 3 ∷ 0 ∷ []) 0 ≡ false
  pub left_outside : shuttle_ok 3 (1 ∷ 0 ∷ 1 ∷ 2 ∷ 2 ∷ 3 ∷ []) 0 ≡ false
  pub too_much_left : shuttle_ok 3 (1 ∷ 0 ∷ 1 ∷ 257 ∷ []) 0 ≡ false
  pub most_left : shuttle_ok 3 (1 ∷ 0 ∷ 1 ∷ 256 ∷ []) 0 ≡ true
  -- 260 numbers a shuttle
  pub one_shuttle : memory_ok (field_numbers 3 1 [] (0 ∷ [])) (zeros 260) ≡ true
  pub too_short : memory_ok (field_numbers 3 1 [] (0 ∷ [])) (zeros 259) ≡ false
  -- what is written, and that the place after it stays as it was
  pub is_written : stored (7 ∷ 7 ∷ 7 ∷ 7 ∷ 7 ∷ 7 ∷ []) 0 (standing 1 (2 ∷ [])) ≡ 1 ∷ 0 ∷ 1 ∷ 1 ∷ 2 ∷ 7 ∷ []

-- an event of one shuttle is accepted, or not, and the first refusal that applies is given
pub record SomeRefusals : Type 0 where
  pub arrival : event_ok 1 2 0 [] ≡ true
  pub no_kind : event_ok 1 3 0 [] ≡ false
  pub not_there : event_ok 1 2 1 [] ≡ false
  -- the route is looked at for every kind
  pub last_square : event_ok 1 1 0 (4095 ∷ []) ≡ true
  pub no_square : event_ok 1 1 0 (4096 ∷ []) ≡ false
  pub longest : event_ok 1 1 0 (zeros 256) ≡ true
  pub too_long : event_ok 1 1 0 (zeros 257) ≡ false
  -- the field, memory and the event are all wrong; memory and the event; the event; nothing is
  pub field_first : refusal (field_numbers 0 0 [] []) (0 ∷ []) 3 0 [] ≡ 1
  pub memory_next : refusal (field_numbers 1 1 (0 ∷ []) []) (0 ∷ []) 3 0 [] ≡ 2
  pub event_last : refusal (field_numbers 1 1 (0 ∷ []) []) [] 3 0 [] ≡ 3
  pub not_refused : refusal (field_numbers 1 1 (0 ∷ []) (0 ∷ [])) (zeros 260) 1 0 [] ≡ 0
