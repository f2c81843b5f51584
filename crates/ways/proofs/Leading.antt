-- A way while it is written down, goal by goal.
use Rattle.std.proofs.Common.{◌≡◌, ℕ, ◌+◌, ◌<◌, ◌≤◌, Bool, List, [], ◌∷◌, length, get_or, drop, sym, ap, ◌∙◌, subst, arith}
use Rattle.std.proofs.lemmas.List.{drop_more, drop_all}
use Rattle.rules.specs.Field.{Field}
use Rattle.ways.specs.Good.{Good, final, Best, Ends}
use Rattle.ways.specs.Leg.{Bounds, Walked}
use Rattle.ways.proofs.Led.{Led, led_start, led_met, led_leg, led_far, led_end, ends_rest}

-- the first k goals are met by the squares that were made, the last of which is `at`; with none left that is the bay
pub record Leading (f : Field) (i from : ℕ) (goals made : List ℕ) (at k : ℕ) : Type 0 where
  pub led : Led f i from goals made at (drop k goals)
  pub ends : Ends (f.bay i) (drop k goals)
  pub home : drop k goals ≡ [] → at ≡ f.bay i

-- at first none is met, and no square is made
pub leading_start : (f : Field) (i from : ℕ) (goals : List ℕ) → 0 < length goals → Ends (f.bay i) goals → Leading f i from goals [] from 0
leading_start f i from goals l e =
    record { led = led_start f i from goals; ends = e; home = λ z. let n : length goals ≡ 0 = ap length z in absurd (omega arith) }

-- the last of a row is what it ends in
ends_last : (b g : ℕ) (gs : List ℕ) → Ends b (g ∷ gs) → gs ≡ [] → g ≡ b
ends_last b g [] e z = e
ends_last b g (h ∷ hs) e z = cc

module _ (f : Field) (i from : ℕ) (goals made : List ℕ) (at k : ℕ) (L : Leading f i from goals made at k) where
  -- all goals are met
  pub leading_end : length goals ≤ k → Best f i from goals made
  leading_end l =
      let none : drop k goals ≡ [] = drop_all k goals l in
      led_end f i from goals made at (L.home none) (subst (λ (x : List ℕ). Led f i from goals made at x) none L.led)

  module _ (l : k < length goals) where
    split : drop k goals ≡ get_or goals k 0 ∷ drop (k + 1) goals
    split = drop_more goals k 0 l

    here : Led f i from goals made at (get_or goals k 0 ∷ drop (k + 1) goals)
    here = subst (λ (x : List ℕ). Led f i from goals made at x) split L.led

    left : Ends (f.bay i) (get_or goals k 0 ∷ drop (k + 1) goals)
    left = subst (λ (x : List ℕ). Ends (f.bay i) x) split L.ends

    -- the next goal is where one stands
    pub leading_met : get_or goals k 0 ≡ at → Leading f i from goals made at (k + 1)
    leading_met e =
        record {
          led = led_met f i from goals made at (drop (k + 1) goals)
              (subst (λ (x : ℕ). Led f i from goals made at (x ∷ drop (k + 1) goals)) e here);
          ends = ends_rest (f.bay i) (get_or goals k 0) (drop (k + 1) goals) left;
          home = λ z. sym e ∙ ends_last (f.bay i) (get_or goals k 0) (drop (k + 1) goals) left z;
        }

    module _ (end : Bool) (same : end ≡ final (get_or goals k 0) (drop (k + 1) goals)) (P : ℕ → ℕ) (B : Bounds f (get_or goals k 0) end at P) where
      bound : Bounds f (get_or goals k 0) (final (get_or goals k 0) (drop (k + 1) goals)) at P
      bound = subst (λ (b : Bool). Bounds f (get_or goals k 0) b at P) same B

      -- it has been walked to
      pub leading_leg :
          (after : List ℕ) → Walked f (get_or goals k 0) end P at made after → Leading f i from goals after (get_or goals k 0) (k + 1)
      leading_leg after w =
          let w' = subst (λ (b : Bool). Walked f (get_or goals k 0) b P at made after) same w in
          record {
            led = subst (λ (x : List ℕ). Led f i from goals x (get_or goals k 0) (drop (k + 1) goals)) (sym w'.written)
                (led_leg f i from goals made at (get_or goals k 0) (drop (k + 1) goals) P here left bound w'.walk w'.falls);
            ends = ends_rest (f.bay i) (get_or goals k 0) (drop (k + 1) goals) left;
            home = λ z. ends_last (f.bay i) (get_or goals k 0) (drop (k + 1) goals) left z;
          }

      -- it is too far
      pub leading_far : (n : ℕ) → n < length made + P at → (r : List ℕ) → Good f i from goals r → n < length r
      leading_far n far = led_far f i from goals n made at (get_or goals k 0) (drop (k + 1) goals) P here bound far
