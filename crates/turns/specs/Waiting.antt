-- Nobody waits for ever where each part of the field touches at most two bays, whatever is ordered of the others.
use Rattle.std.specs.Prelude.{◌≡◌, ℕ, suc, ◌+◌, ◌*◌, ◌<◌, ◌≤◌, true, List, length}
use Rattle.rules.specs.Field.{Field, sound}
use Rattle.rules.specs.Shuttle.{at_home}
use Rattle.rules.specs.Event.{Event, after}
use Rattle.turns.specs.Tick.{waits, Turn}
use Rattle.turns.specs.Night.{night}
use Rattle.turns.specs.Home.{ArrivalsWithin}
use Rattle.turns.specs.Parts.{AtMostTwo}

-- a night from any row of events and with any waits, in which each arrival comes within d ticks of its step; what is ordered is free
pub record AnyNight (f : Field) (s : Turn) (orders : ℕ → ℕ → List ℕ) (marks : ℕ → List ℕ) (d : ℕ) : Type 0 where
  pub field_sound : sound f ≡ true
  pub es : List Event
  pub begins : s.fleet ≡ after f es
  pub enough : f.shuttles ≤ length s.waits
  pub within : ArrivalsWithin f (λ t. (night f s orders marks t).fleet) marks (λ t. (night f s orders marks (suc t)).whose) d

-- how many ticks one may have to wait: for each of the 256 squares that another may have left, and once more, one for each shuttle and d
unfoldable pub most_ticks : Field → ℕ → ℕ
most_ticks f d = 257 * (f.shuttles + d)

-- whoever stands with something left is granted its step in one of the next so many ticks
abbrev pub NobodyStarves : Type 0
NobodyStarves =
    (f : Field) (s : Turn) (orders : ℕ → ℕ → List ℕ) (marks : ℕ → List ℕ) (d : ℕ) → AtMostTwo f → AnyNight f s orders marks d
    → (t i : ℕ) → i < f.shuttles → waits ((night f s orders marks t).fleet i) ≡ true
    → (k : ℕ) × (k < most_ticks f d) × ((night f s orders marks (suc (t + k))).whose ≡ i)

-- and each comes home: after some of the next so many ticks it stands in its bay with nothing left
abbrev pub EachComesHome : Type 0
EachComesHome =
    (f : Field) (s : Turn) (orders : ℕ → ℕ → List ℕ) (marks : ℕ → List ℕ) (d : ℕ) → AtMostTwo f → AnyNight f s orders marks d
    → (t i : ℕ) → i < f.shuttles
    → (k : ℕ) × (k ≤ 257 * (most_ticks f d + d)) × ((night f s orders marks (t + k)).fleet i ≡ at_home f i)
