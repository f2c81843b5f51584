-- A line of commands: 'order a rrddlluu', 'step a', 'arrive a', 'way a 5,3 7,1', 'tick 20 d 3', 'show'.
use Rattle.std.specs.Prelude.{◌≡◌, ◌≢◌, ℕ, ◌-◌, cond, List, [], ◌∷◌, Some, None, Ok, Err, vec_items, codes, Option, Result}
use Rattle.std.specs.Option.{option_map}
use Rattle.std.specs.Str.{bytes_eq}
use Rattle.field.specs.declared.direction.Direction.{Direction}
use Rattle.field.specs.declared.refusal.Refusal.{Refusal}
use Rattle.field.specs.declared.refusal.Refusal.TheVariants.{Text}
use Rattle.text.specs.Fields.{is_letter}
use Rattle.text.specs.Gathered.{gathered}
use Rattle.text.specs.Routes.{ways_in}
use Rattle.session.specs.Numbers.{place_in, ticks_in}
use Rattle.session.specs.declared.numbers.Place.{Place}
use Rattle.session.specs.declared.numbers.Ticks.{Ticks}
use Rattle.session.specs.declared.commands.Command.{Command}
use Rattle.session.specs.declared.commands.Command.TheVariants as command

-- what a line asks for: an event of a shuttle, its way through squares, ticks, the picture
pub data Ask : Type 0 where
  order : ℕ → List Direction → Ask
  step : ℕ → Ask
  arrive : ℕ → Ask
  way : ℕ → List Place → Ask
  ticks : Ticks → Ask
  show : Ask

-- what a value of the code asks for
abbrev pub meaning : Command → Ask
meaning (command.Order i ways) = order i (vec_items ways)
meaning (command.Step i) = step i
meaning (command.Arrive i) = arrive i
meaning (command.Way i places) = way i (vec_items places)
meaning (command.Tick t) = ticks t
meaning command.Show = show

-- a shuttle is exactly one letter of a to p
abbrev pub shuttle_of : List ℕ → Option ℕ
shuttle_of (letter ∷ []) = cond (is_letter letter) (Some (letter - 97)) None
shuttle_of _ = None

-- what is asked of a shuttle with ways or squares, if all can be read
abbrev pub asked_with : {A : Type 0} → (ℕ → List A → Ask) → (shuttle : Option ℕ) → Option (List A) → Option Ask
asked_with ask (Some i) (Some all) = Some (ask i all)
asked_with ask (Some i) None = None
asked_with ask None all = None

-- the words behind 'order': a shuttle, and the letters of its route if it has any
unfoldable pub order_of : List (List ℕ) → Option Ask
order_of (s ∷ []) = option_map (λ i. order i []) (shuttle_of s)
order_of (s ∷ letters ∷ []) = asked_with order (shuttle_of s) (ways_in letters)
order_of _ = None

-- the words behind 'step' or 'arrive': a shuttle
unfoldable pub event_of : (ℕ → Ask) → List (List ℕ) → Option Ask
event_of ask (s ∷ []) = option_map ask (shuttle_of s)
event_of ask _ = None

-- the words behind 'way': a shuttle and squares
unfoldable pub way_of : List (List ℕ) → Option Ask
way_of (s ∷ squares) = asked_with way (shuttle_of s) (gathered place_in [] squares)
way_of [] = None

-- the words behind 'tick': a number, the letter d, a number
unfoldable pub tick_of : List (List ℕ) → Option Ask
tick_of (count ∷ letter ∷ due ∷ []) = cond (bytes_eq letter (codes "d")) (option_map ticks (ticks_in count due)) None
tick_of _ = None

-- the words behind 'show': there are none
unfoldable pub show_of : List (List ℕ) → Option Ask
show_of [] = Some show
show_of _ = None

-- what the words of a line ask for, if they can be read
abbrev pub asked : List (List ℕ) → Option Ask
asked [] = None
asked (w ∷ ws) =
    cond (bytes_eq w (codes "order")) (order_of ws)
    (cond (bytes_eq w (codes "step")) (event_of step ws)
    (cond (bytes_eq w (codes "arrive")) (event_of arrive ws)
    (cond (bytes_eq w (codes "way")) (way_of ws)
    (cond (bytes_eq w (codes "tick")) (tick_of ws)
    (cond (bytes_eq w (codes "show")) (show_of ws) None)))))

-- what is read of a line: nothing where it has no word
abbrev pub Says : (place : ℕ) → List (List ℕ) → Result (Option Command) Refusal → Type 0
Says place ws (Ok None) = ws ≡ []
Says place ws (Ok (Some c)) = asked ws ≡ Some (meaning c)
Says place ws (Err r) = (asked ws ≡ None) × (ws ≢ []) × (r ≡ Text place)
