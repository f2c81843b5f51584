-- Shuttles as agents that block each other: the hall's own rule for a step is the one grant rule, for every fleet.
use Rattle.std.specs.Prelude.{◌≡◌, ℕ, false, cond, not, ◌&&◌, [], ◌∷◌, nat_lt}
use Rattle.rules.specs.Tests.{is_empty}
use Rattle.rules.specs.Field.{Field}
use Rattle.rules.specs.Shuttle.{Shuttle, Fleet, next_square, stepped}
use Rattle.rules.specs.Event.{grants}
use Rattle.agents.specs.Kinds.{Kind, may}

-- a shuttle holds its square and while it moves the one behind, settles on its square, needs what is left of its route, and is idle with
-- nothing left; none is ever closed
abbrev pub shuttles : Kind Shuttle
shuttles =
    record {
      held = λ s. s.at ∷ cond s.moving (s.behind ∷ []) [];
      settled = λ s. s.at ∷ [];
      needs = λ s. s.route;
      idle = λ s. is_empty s.route;
      closings = 0;
      shut = λ _ _. false;
    }

-- a step is granted exactly if the shuttle stands with something left and the grant rule lets it enter its next square
abbrev pub RuleIsTheSame : Type 0
RuleIsTheSame =
    (f : Field) (g : Fleet) (i : ℕ)
    → grants f g i ≡ (nat_lt i f.shuttles && (not (g i).moving && (not (is_empty (g i).route)
    && may shuttles f.shuttles g i (next_square (g i).route ∷ []) (stepped (g i)))))
