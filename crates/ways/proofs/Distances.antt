-- A table of distances to the next square of a row: it bounds the leg, and the first direction that leads one nearer is the walk's next.
use Rattle.std.proofs.Common.{◌≡◌, ℕ, suc, ◌*◌, ◌<◌, ◌≤◌, Bool, true, not, ◌&&◌, ◌||◌, eqb, ltb, Some, sym, ap, subst, ⊎_elim, arith}
use Rattle.std.proofs.lemmas.Bool.{cases_lt, and_parts, ltb-true}
use Rattle.rules.specs.Field.{Field, is_bay, free_square}
use Rattle.field.specs.Directions.{rank, next, direction_to}
use Rattle.field.specs.declared.direction.Direction.{Direction}
use Rattle.ways.specs.Order.{turn}
use Rattle.ways.specs.Good.{enter}
use Rattle.ways.specs.Leg.{Bounds, Nearer}
use Rattle.ways.specs.Distances.{Seen, Hop, Distances, capped}
use Rattle.ways.proofs.Next.{next_tells, next_from}

pub hop_seen : (f : Field) (g : ℕ) (end : Bool) (s c d : ℕ) → Hop f g end s c d → Seen f g end s c
hop_seen f g end s c d h = h.0

pub enter_inside : (f : Field) (g : ℕ) (end : Bool) (d : ℕ) → enter f g end d ≡ true → d < f.across * f.down
unfolding enter free_square
enter_inside f g end d h =
    let free = (and_parts (free_square f d) (not (is_bay f d) || (eqb d g && end)) h).0 in
    ltb-true d (f.across * f.down) (and_parts (ltb d (f.across * f.down)) (not (f.wall d)) free).0

-- the direction leads to no square that is one nearer
abbrev pub NotNearer : Field → (ℕ → ℕ) → ℕ → Direction → Type 0
NotNearer f T c d = (e : ℕ) → next f c d ≡ Some e → suc (T e) ≡ T c → ⊥

module _ (f : Field) (g : ℕ) (end : Bool) (s : ℕ) (T : ℕ → ℕ) (D : Distances f g end s T) where
  pub distances_bound : Bounds f g end s (capped T s)
  distances_bound =
      record {
        at_goal = omega (arith, D.goal);
        lower = λ c d p b e. ⊎_elim (λ l. omega (arith, D.lower c d (p, b, e) l)) (λ l. omega arith) (cases_lt (suc (T d)) (T s));
      }

  module _ (wide : 1 ≤ f.across) (inside : s < f.across * f.down) (c : ℕ) (off : c ≡ g → ⊥) (known : T c < 65534) (most : T c ≤ T s) where
    pub known_inside : c < f.across * f.down
    known_inside = ⊎_elim (λ e. omega arith) (λ h. enter_inside f g end c h) (D.seen c known)

    -- a direction leads to a square that is one nearer, and none before it does
    pub nearer :
        (d : Direction) (e : ℕ) → next f c d ≡ Some e → suc (T e) ≡ T c → ((b : Direction) → rank b < rank d → NotNearer f T c b)
        → Nearer f g end (capped T s) c e
    unfolding turn
    nearer d e at one none =
        let n = next_tells f wide c known_inside d e at in
        record {
          off = off;
          next = n.beside;
          enters = ⊎_elim (λ (q : e ≡ s). let z : T e ≡ T s = ap T q in absurd (omega arith)) (λ h. h) (D.seen e (omega arith));
          one = omega arith;
          first = λ x p h lt.
              let up : capped T s c ≤ suc (capped T s x) = distances_bound.lower c x (D.seen c known) p h in
              let before : rank (direction_to f c x) < rank d = subst (λ (b : Direction). rank (direction_to f c x) < rank b) n.direction lt in
              let not_one : suc (T x) ≡ T c → ⊥ =
              none (direction_to f c x) before x (next_from f wide c known_inside x (enter_inside f g end x h) p) in
              ⊎_elim (λ l. omega arith) (λ l. absurd (not_one (omega arith))) (cases_lt (capped T s c) (suc (capped T s x)));
        }

    -- some direction does
    pub some_nearer : (d : Direction) × (e : ℕ) × (next f c d ≡ Some e) × (suc (T e) ≡ T c)
    some_nearer =
        ⊎_elim
        (λ e. absurd (off e))
        (λ p. (direction_to f c p.0, p.0, next_from f wide c known_inside p.0 (enter_inside f g end p.0 p.1.2) p.1.1, sym p.2))
        (D.falls c known)
