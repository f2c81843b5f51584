-- What a list comes to, one by one, if each of its parts comes to something.
use Rattle.std.specs.Prelude.{◌≡◌, List, [], ◌∷◌, ◌++◌, Some, None, Option}

-- what f makes of something, and nothing of nothing
unfoldable pub on_some : {A B : Type 0} → Option A → (A → Option B) → Option B
on_some None f = None
on_some (Some x) f = f x

-- what f makes of each, after those before them; nothing if it makes nothing of one
unfoldable pub gathered : {A B : Type 0} → (A → Option B) → (before : List B) → List A → Option (List B)
gathered f before [] = Some before
gathered f before (x ∷ xs) = on_some (f x) (λ y. gathered f (before ++ y ∷ []) xs)

-- each answer, as `returns` relates it to what it is of, is what f makes of that
abbrev pub Makes : {A B : Type 0} → (returns : A → Option B → Type 0) → (A → Option B) → Type 0
Makes {A} {B} returns f = (x : A) (r : Option B) → returns x r → r ≡ f x
