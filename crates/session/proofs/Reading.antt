-- Squares are read word by word.
use Rattle.std.proofs.Common.{◌≡◌, ℕ, List, [], ◌∷◌, ◌++◌, Option, refl, ap}
use Rattle.std.specs.Borrow.{Bor}
use mathlib.Core.Path.{fun_ext}
use Rattle.text.specs.Lines.{pieces}
use Rattle.text.specs.Gathered.{on_some, gathered}

-- what is made of the pieces is made of the references to them
pub gathered_pieces : {B : Type 0} (f : List ℕ → Option B) (before : List B) (rs : List (Bor (List ℕ)))
    → gathered (λ r. f r.now) before rs ≡ gathered f before (pieces rs)
unfolding gathered
gathered_pieces f before [] = refl
gathered_pieces f before (r ∷ rs) = ap (on_some (f r.now)) (fun_ext (λ y. gathered_pieces f (before ++ y ∷ []) rs))
