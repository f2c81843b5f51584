-- Writing a shuttle into memory: its four numbers, and then what is left of its route.
use Rattle.std.proofs.Common.{◌≡◌, ℕ, ◌+◌, ◌*◌, ◌≤◌, Bool, List, ◌∷◌, ◌++◌, length, take, drop, sym, ◌∙◌, append_assoc, arith}
use native.Mathlib.Numerals.{towards_suc}
use Rattle.std.proofs.lemmas.List.{length-set}
use Rattle.std.proofs.lemmas.List.Edits.{sets, sets-eq}
use Rattle.rules.specs.Shuttle.{Shuttle}
use Rattle.rules.specs.Memory.{mark, numbers_of, stored}
use Rattle.memory.specs.Written.{headed, headed_from}

pub headed_long : (m : List ℕ) (place at : ℕ) (moving : Bool) (behind left : ℕ) → length (headed_from m place at moving behind left) ≡ length m
headed_long m place at moving behind left = simp length-set

headed_sets : (m : List ℕ) (i at : ℕ) (moving : Bool) (behind left : ℕ) (r : List ℕ)
    → sets m (260 * i) (at ∷ mark moving ∷ behind ∷ left ∷ r) ≡ sets (headed m i at moving behind left) (260 * i + 4) r
headed_sets m i at moving behind left r = simp towards_suc

-- the whole: the numbers, then the route over the places that it needs
pub stored_is : (m : List ℕ) (i : ℕ) (s : Shuttle) → 260 * i + 4 + length s.route ≤ length m
    → stored m i s
    ≡ take (260 * i + 4) (headed m i s.at s.moving s.behind (length s.route))
    ++ (s.route ++ drop (260 * i + 4 + length s.route) (headed m i s.at s.moving s.behind (length s.route)))
unfolding stored numbers_of
stored_is m i s l =
    let h = headed m i s.at s.moving s.behind (length s.route) in
    let long = headed_long m (260 * i) s.at s.moving s.behind (length s.route) in
    sym (append_assoc (take (260 * i) m) (numbers_of s) _) ∙ sym (sets-eq (numbers_of s) m (260 * i) (omega arith))
    ∙ headed_sets m i s.at s.moving s.behind (length s.route) s.route
    ∙ sets-eq s.route h (260 * i + 4) (omega arith) ∙ append_assoc (take (260 * i + 4) h) s.route _
