-- Visiting: squares that are met in a row's order.
use Rattle.std.specs.Prelude.{◌≡◌, ℕ, ◌<◌, List, [], ◌∷◌, length, drop, slice_index}

-- the squares of a row are met along a list of squares: the first at some place, the next at that place or a later one, and so on
abbrev pub Visits : List ℕ → List ℕ → Type 0
Visits along [] = Unit {0}
Visits along (g ∷ gs) = (k : ℕ) × (k < length along) × (slice_index along k ≡ g) × Visits (drop k along) gs
