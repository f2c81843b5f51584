-- Shuttles, what they hold, and how one event changes one of them.
use Rattle.std.specs.Prelude.{ℕ, Bool, true, false, cond, not, ◌&&◌, ◌||◌, List, [], ◌∷◌, ◌==◌}
use Rattle.rules.specs.Tests.{any_to}
use Rattle.rules.specs.Field.{Field}

-- the square it is on; whether it is on its way there from the square behind it; what is left of its route, the next square first
pub record Shuttle : Type 0 where
  pub at : ℕ
  pub moving : Bool
  pub behind : ℕ
  pub route : List ℕ

-- a shuttle for each number
abbrev pub Fleet : Type 0
Fleet = ℕ → Shuttle

-- it holds the square it is on, and while it moves the one behind it too
unfoldable pub holds : Shuttle → ℕ → Bool
holds s c = s.at == c || (s.moving && s.behind == c)

-- a shuttle other than i, of the first n, holds c
unfoldable pub held_by_other : Fleet → ℕ → ℕ → ℕ → Bool
held_by_other g i c n = any_to (λ j. not (i == j) && holds (g j) c) n

-- the fleet with shuttle i replaced by s
unfoldable pub put : Fleet → ℕ → Shuttle → Fleet
put g i s j = cond (j == i) s (g j)

-- at home: it stands in its bay with nothing left
unfoldable pub at_home : Field → Fleet
at_home f i = record { at = f.bay i; moving = false; behind = f.bay i; route = [] }

-- given a route r where it stands
unfoldable pub ordered : Shuttle → List ℕ → Shuttle
ordered s r = record { at = s.at; moving = false; behind = s.at; route = r }

-- the next square of what is left; 0 where nothing is left
unfoldable pub next_square : List ℕ → ℕ
next_square [] = 0
next_square (c ∷ cs) = c

-- on its way to the first of these squares, with the others left
unfoldable pub stepped_to : Shuttle → List ℕ → Shuttle
stepped_to s [] = s
stepped_to s (c ∷ cs) = record { at = c; moving = true; behind = s.at; route = cs }

-- on its way to its next square
unfoldable pub stepped : Shuttle → Shuttle
stepped s = stepped_to s s.route

-- come to its square: it stands, and the square behind is its own
unfoldable pub arrived : Shuttle → Shuttle
arrived s = record { at = s.at; moving = false; behind = s.at; route = s.route }
