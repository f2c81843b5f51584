-- A bound on coming home, of anything that goes on in ticks: there are n agents, and ticks from 0.
-- `left t` is what is left after t ticks; `moves t i`, agent i is on its way after t ticks; `due t i`, its arrival is due in tick t, before
-- anything is granted; `whose t`, whose step tick t grants, or n or more where it grants none.
use Rattle.std.specs.Prelude.{◌≡◌, ℕ, suc, ◌+◌, ◌*◌, ◌<◌, ◌≤◌, max, Bool, true, false, ◌⊎◌}

pub record Ticking (n : ℕ) (left : ℕ → ℕ) (moves due : ℕ → ℕ → Bool) (whose : ℕ → ℕ) : Type 0 where
  -- a step that is granted leaves one less
  pub one_less : (t : ℕ) → whose t < n → suc (left (suc t)) ≡ left t
  -- a tick that grants none leaves as much
  pub as_much : (t : ℕ) → n ≤ whose t → left (suc t) ≡ left t
  -- a tick that grants none though something is left, finds somebody on its way
  pub not_stuck : (t : ℕ) → n ≤ whose t → 0 < left t → (i : ℕ) × (i < n) × (moves (suc t) i ≡ true)
  -- one that is on its way after a tick was granted its step in it, or was on its way before it and not due
  pub on_its_way : (t i : ℕ) → i < n → moves (suc t) i ≡ true → (whose t ≡ i) ⊎ ((moves t i ≡ true) × (due t i ≡ false))

-- an agent begins to move at t: it is on its way at the start, or was granted its step in the tick before
abbrev pub Begins : (whose : ℕ → ℕ) (t i : ℕ) → Type 0
Begins whose t i = (t ≡ 0) ⊎ ((u : ℕ) × (t ≡ suc u) × (whose u ≡ i))

-- each arrival comes within d ticks of its step: one that begins to move is due in one of the next d ticks
abbrev pub ComesWithin : (n : ℕ) (moves due : ℕ → ℕ → Bool) (whose : ℕ → ℕ) (d : ℕ) → Type 0
ComesWithin n moves due whose d =
    (t i : ℕ) → i < n → moves t i ≡ true → Begins whose t i → (k : ℕ) × (k < d) × (due (t + k) i ≡ true)

-- then after (L + 1) · max(d, 1) ticks, L being what is left at the start, nothing is left and nobody is on its way, for ever
abbrev pub AllDoneInTime : Type 0
AllDoneInTime =
    (n : ℕ) (left : ℕ → ℕ) (moves due : ℕ → ℕ → Bool) (whose : ℕ → ℕ) (d : ℕ) → Ticking n left moves due whose
    → ComesWithin n moves due whose d → (t : ℕ) → suc (left 0) * max d 1 ≤ t
    → (left t ≡ 0) × ((i : ℕ) → i < n → moves t i ≡ false)
