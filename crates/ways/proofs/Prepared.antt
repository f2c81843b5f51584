-- A table before distances spread, in which only the goal is known, and after.
use Rattle.std.proofs.Common.{◌≡◌, ℕ, ◌+◌, ◌<◌, ◌≤◌, Bool, true, false, cond, eqb, ◌⊎◌, List, [], ◌∷◌, length, get_or, set, refl, ap, ◌∙◌, subst, inl, inr, ⊎_elim, arith}
use Rattle.std.proofs.lemmas.List.{length-set, get_or_default}
use Rattle.std.proofs.lemmas.List.Sums.{sum_by-set, count_by-le-length}
use Rattle.std.proofs.lemmas.Bool.{cases_eq, eq-eqb, ne_eqb, cond-true, cond-false}
use Rattle.rules.specs.Field.{Field}
use Rattle.ways.specs.Good.{enter}
use Rattle.ways.specs.Leg.{Bounds}
use Rattle.ways.specs.Distances.{Seen, Hop, Distances, distance_in, unknown, Spreading, Prepared}
use Rattle.ways.proofs.Distances.{hop_seen}
use Rattle.ways.proofs.Spread.{spread_start, spread_end}

module _ (f : Field) (g : ℕ) (end : Bool) (s : ℕ) (table : List ℕ) (P : Prepared f g end s table) where
  pub prepared_spread : Spreading f g end s table (g ∷ []) 0
  prepared_spread =
      spread_start (Hop f g end s) (Seen f g end s) (hop_seen f g end s) g (distance_in table) (λ j. get_or (g ∷ []) j 0) P.goal refl (inr P.enters)
      (λ x ne. ⊎_elim (λ m. omega (arith, m.1)) (λ m. omega (arith, m.1)) (P.marks x ne))
      (λ x v. ⊎_elim (λ e. inl e) (λ ne. ⊎_elim (λ m. inr m.1) (λ m. absurd (m.0 v)) (P.marks x ne)) (cases_eq x g))
      (λ x z. ⊎_elim
      (λ (e : x ≡ g). let y : distance_in table x ≡ 0 = ap (distance_in table) e ∙ P.goal in absurd (omega arith))
      (λ ne. ⊎_elim (λ m. m.0) (λ m. absurd (omega (arith, m.1))) (P.marks x ne))
      (cases_eq x g))

  -- the goal is known, so that at least one place of the queue is left over
  pub prepared_room : length table ≡ 4096 → g < 4096 → 1 + unknown table ≤ 4096
  prepared_room long l =
      let weight : ℕ → ℕ = λ x. cond (eqb x 65535) 1 0 in
      let at : get_or table g 0 ≡ 0 = get_or_default table g 0 65534 (omega arith) ∙ P.goal in
      let none : weight (get_or table g 0) ≡ 0 = ap weight at in
      let all = count_by-le-length (λ (x : ℕ). eqb x 65535) (set table g 65535) in
      omega (arith, all, none, length-set table g 65535, sum_by-set weight table g 65535 0 (omega arith))

-- once none is left in the queue, or the start is known, the table has the distances
pub spread_distances :
    (f : Field) (g : ℕ) (end : Bool) (s : ℕ) (table queue : List ℕ) (head : ℕ) → Spreading f g end s table queue head
    → (length queue ≤ head) ⊎ (distance_in table s ≡ 65535 → ⊥) → Distances f g end s (distance_in table)
spread_distances f g end s table queue head S over =
    let tail = length queue in
    record {
      goal = S.goal;
      lower = ⊎_elim
          (λ k. spread_end (Hop f g end s) (Seen f g end s) (hop_seen f g end s) g (distance_in table) (λ j. get_or queue j 0) head tail s S (omega arith) (inr k))
          (λ k. spread_end (Hop f g end s) (Seen f g end s) (hop_seen f g end s) g (distance_in table) (λ j. get_or queue j 0) head tail s S (omega arith)
          (inl (⊎_elim (λ l. omega (arith, S.order)) (λ ne. absurd (ne k)) over)))
          (S.marked s (inl refl));
      falls = S.falls;
      seen = S.seen;
    }

-- a goal that may not be entered is not reached: any number bounds the leg
pub shut_bound : (f : Field) (g : ℕ) (end : Bool) (s n : ℕ) → (enter f g end g ≡ true → ⊥) → Bounds f g end s (λ x. cond (eqb x g) 0 n)
shut_bound f g end s n ne =
    record {
      at_goal = cond-true (eqb g g) 0 n (eq-eqb g g refl);
      lower = λ c d v b e.
          let off : eqb d g ≡ false = ne_eqb d g (λ q. ne (subst (λ (x : ℕ). enter f g end x ≡ true) q e)) in
          let far : cond (eqb d g) 0 n ≡ n = cond-false (eqb d g) 0 n off in
          ⊎_elim
          (λ (q : c ≡ g). omega (arith, far, cond-true (eqb c g) 0 n (eq-eqb c g q)))
          (λ q. omega (arith, far, cond-false (eqb c g) 0 n (ne_eqb c g q)))
          (cases_eq c g);
    }
