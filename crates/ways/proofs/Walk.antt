-- A leg walked square by square, each written down after the one before.
use Rattle.std.proofs.Common.{◌≡◌, ℕ, ◌+◌, ◌<◌, ◌≤◌, Bool, List, [], ◌∷◌, ◌++◌, length, sym, ap, ◌∙◌, subst, append_assoc, arith}
use Rattle.std.proofs.lemmas.List.{append-nil, length_push, length-append}
use Rattle.rules.specs.Field.{Field}
use Rattle.ways.specs.Leg.{Nearer, Falls, Walked}

-- the walk from s has come to c and is written down after what was there before
pub record Walking (f : Field) (g : ℕ) (end : Bool) (P : ℕ → ℕ) (s c : ℕ) (before made : List ℕ) : Type 0 where
  pub walked : List ℕ
  pub on : (v : List ℕ) → Falls f g end P c v → Falls f g end P s (walked ++ v)
  pub fallen : P c + length walked ≡ P s
  pub written : made ≡ before ++ walked

module _ (f : Field) (g : ℕ) (end : Bool) (P : ℕ → ℕ) (s : ℕ) (before : List ℕ) where
  pub walk_start : Walking f g end P s s before before
  walk_start = record { walked = []; on = λ v h. h; fallen = omega arith; written = sym (append-nil before) }

  pub walk_more : (c d : ℕ) (made : List ℕ) → Walking f g end P s c before made → Nearer f g end P c d
      → Walking f g end P s d before (made ++ (d ∷ []))
  walk_more c d made w n =
      record {
        walked = w.walked ++ (d ∷ []);
        on = λ v h. subst (λ (x : List ℕ). Falls f g end P s x) (sym (append_assoc w.walked (d ∷ []) v)) (w.on (d ∷ v) (n, h));
        fallen = omega (arith, w.fallen, n.one, length_push w.walked d);
        written = ap (λ (x : List ℕ). x ++ (d ∷ [])) w.written ∙ append_assoc before w.walked (d ∷ []);
      }

  -- there is room for one more where there is for all that the numbers say
  pub walk_room : (n c d : ℕ) (made : List ℕ) → length before + P s ≤ n → Walking f g end P s c before made → Nearer f g end P c d → length made < n
  walk_room n c d made room w k = omega (arith, room, w.fallen, k.one, ap length w.written, length-append before w.walked)

  pub walk_end : (c : ℕ) (made : List ℕ) → Walking f g end P s c before made → c ≡ g → Walked f g end P s before made
  walk_end c made w e =
      record {
        walk = w.walked;
        falls = subst (λ (x : List ℕ). Falls f g end P s x) (append-nil w.walked) (w.on [] e);
        written = w.written;
      }
