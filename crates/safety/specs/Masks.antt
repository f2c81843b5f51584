-- Sets of shuttles as masks: a number with one bit for each shuttle.
use Rattle.std.specs.Prelude.{ℕ, zero, suc, ◌/◌, ◌%◌, ◌^◌, Bool, false, cond, ◌||◌, List, [], ◌∷◌, ◌==◌, bit_or, slice_index}

-- shuttle j is in the set
unfoldable pub has : ℕ → ℕ → Bool
has mask j = mask / 2 ^ j % 2 == 1

-- shuttle j is in the set of one of these squares, by a table of sets
unfoldable pub met : List ℕ → ℕ → List ℕ → Bool
met table j [] = false
met table j (c ∷ cs) = has (slice_index table c) j || met table j cs

-- the set `out` with shuttle i in it, if all that block i are in it then; else as it was
unfoldable pub with_free : (blockers : List ℕ) → ℕ → ℕ → ℕ
with_free bs i out = cond (bit_or (slice_index bs i) (bit_or out (2 ^ i)) == bit_or out (2 ^ i)) (bit_or out (2 ^ i)) out

-- one round: each of the first n shuttles in turn
unfoldable pub round : (blockers : List ℕ) → ℕ → ℕ → ℕ
round bs zero out = out
round bs (suc i) out = with_free bs i (round bs i out)
