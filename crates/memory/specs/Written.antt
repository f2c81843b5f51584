-- What is written of a shuttle.
use Rattle.std.specs.Prelude.{ℕ, ◌+◌, ◌*◌, Bool, List, slice_set}
use Rattle.rules.specs.Memory.{mark}

-- memory with the four numbers of a shuttle, from this place on, that stand before what is left of its route
abbrev pub headed_from : List ℕ → (place at : ℕ) → (moving : Bool) → (behind left : ℕ) → List ℕ
headed_from m place at moving behind left =
    slice_set (slice_set (slice_set (slice_set m place at) (place + 1) (mark moving)) (place + 2) behind) (place + 3) left

-- memory with the four numbers of shuttle i that stand before what is left of its route
abbrev pub headed : List ℕ → (i at : ℕ) → (moving : Bool) → (behind left : ℕ) → List ℕ
headed m i at moving behind left = headed_from m (260 * i) at moving behind left
