-- The first of the queue is expanded: by one direction after the other, the squares beside it get their distances in a table and their places in the queue.
use Rattle.std.proofs.Common.{◌≡◌, ℕ, suc, ◌+◌, ◌*◌, ◌<◌, ◌≤◌, Bool, true, cond, eqb, List, [], ◌∷◌, ◌++◌, length, get_or, set, Some, sym, refl, ap, ◌∙◌, subst, ⊎_elim, arith}
use Rattle.std.proofs.lemmas.List.{length-set, get_or-set_same, get_or-set_other, get_or_default, get_or_past, get_or_append_left, get_or_push, length_push}
use Rattle.std.proofs.lemmas.List.Sums.{sum_by-set, get_or-le-sum_by}
use Rattle.std.proofs.lemmas.Bool.{cases_eq, cases_lt, eq-eqb, ne_eqb, cond-true, cond-false}
use Rattle.rules.specs.Field.{Field, beside}
use Rattle.field.specs.Directions.{rank, next, direction_to}
use Rattle.field.specs.declared.direction.Direction.{Direction}
use Rattle.ways.specs.Good.{enter}
use Rattle.ways.specs.Distances.{Seen, Hop, Spread, distance_in, unknown, Spreading}
use Rattle.ways.proofs.Next.{Beside, beside_sym, rank_below, rank_more, next_tells, next_from}
use Rattle.ways.proofs.Distances.{hop_seen, enter_inside}
use Rattle.ways.proofs.Spread.{spread_more, spread_done}

abbrev weight : ℕ → ℕ
weight x = cond (eqb x 65535) 1 0

-- the direction leads to no square that is not known yet
abbrev Known : Field → List ℕ → ℕ → Direction → Type 0
Known f table c d = (e : ℕ) → next f c d ≡ Some e → distance_in table e ≡ 65535 → ⊥

-- of the squares that directions lead to from c, the first of the queue, those of the first j directions are known
pub record Expanding (f : Field) (g : ℕ) (end : Bool) (s c : ℕ) (table queue : List ℕ) (head j : ℕ) : Type 0 where
  pub table_long : length table ≡ 4096
  pub left : head < length queue
  pub room : length queue + unknown table ≤ 4096
  pub spreading : Spreading f g end s table queue head
  pub first : get_or queue head 0 ≡ c
  pub enters : enter f g end c ≡ true
  pub passed : (d : Direction) → rank d < j → Known f table c d

module _ (f : Field) (g : ℕ) (end : Bool) (s c : ℕ) (table queue : List ℕ) (head j : ℕ) (E : Expanding f g end s c table queue head j) where
  low : distance_in table c ≤ head
  low = subst (λ (x : ℕ). distance_in table x ≤ head) E.first (E.spreading.small head E.left)

  pub expand_inside : c < f.across * f.down
  expand_inside = enter_inside f g end c E.enters

  -- the distance is small
  pub expand_small : distance_in table c < 4096
  expand_small = omega (arith, low, E.left, E.room)

  -- after the fourth it is done
  pub expand_done : 1 ≤ f.across → s < f.across * f.down → j ≡ 4 → Spreading f g end s table queue (suc head)
  expand_done wide start all =
      spread_done (Hop f g end s) (Seen f g end s) (hop_seen f g end s) g (distance_in table) (λ k. get_or queue k 0) head (length queue) E.spreading E.left
      (λ x p z.
      let b : beside f c x ≡ true = beside_sym f x c (subst (λ (y : ℕ). beside f x y ≡ true) E.first p.1) in
      let there : x < f.across * f.down = ⊎_elim (λ q. omega arith) (λ h. enter_inside f g end x h) p.0 in
      E.passed (direction_to f c x) (omega (arith, rank_below (direction_to f c x))) x (next_from f wide c expand_inside x there b) z)

  -- the j-th direction
  module _ (d : Direction) (is : rank d ≡ j) where
    -- what is known, and what lies past the edge, is passed over
    pub expand_pass : Known f table c d → Expanding f g end s c table queue head (j + 1)
    expand_pass passes =
        record {
          table_long = E.table_long;
          left = E.left;
          room = E.room;
          spreading = E.spreading;
          first = E.first;
          enters = E.enters;
          passed = rank_more (Known f table c) j d is E.passed passes;
        }

    -- a square that is not known gets its distance
    module _ (wide : 1 ≤ f.across) (most : f.across * f.down ≤ 4096) (e : ℕ) (at : next f c d ≡ Some e) where
      to : Beside f wide c expand_inside d e
      to = next_tells f wide c expand_inside d e at

      pub put_long : e < length table
      put_long = omega (arith, to.inside_too, most, E.table_long)

      module _ (far : distance_in table e ≡ 65535) where
        counted : get_or table e 0 ≡ 65535
        counted = get_or_default table e 0 65534 put_long ∙ far

        one : weight (get_or table e 0) ≡ 1
        one = cond-true (eqb (get_or table e 0) 65535) 1 0 (eq-eqb (get_or table e 0) 65535 counted)

        -- the queue has room for it
        pub put_room : length queue < 4096
        put_room = omega (arith, E.room, one, get_or-le-sum_by weight table e 0 put_long)

        module _ (n : ℕ) (is_next : n ≡ suc (distance_in table c)) where
          near : n ≤ 4096
          near = omega (arith, is_next, expand_small)

          at_e : distance_in (set table e n) e ≡ n
          at_e = get_or-set_same table e n 65534 put_long

          off_e : (x : ℕ) → (x ≡ e → ⊥) → distance_in (set table e n) x ≡ distance_in table x
          off_e x ne = get_or-set_other table e x n 65534 ne

          -- the queue's places but the new one are as they were
          stay : (k : ℕ) → (k ≡ length queue → ⊥) → get_or (queue ++ (e ∷ [])) k 0 ≡ get_or queue k 0
          stay k ne =
              ⊎_elim
              (λ l. get_or_append_left queue (e ∷ []) 0 k l)
              (λ l. get_or_past (queue ++ (e ∷ [])) k 0 (omega (arith, length_push queue e)) ∙ sym (get_or_past queue k 0 l))
              (cases_lt k (length queue))

          grown : Spreading f g end s (set table e n) (queue ++ (e ∷ [])) head
          grown =
              let one_more : suc (length queue) ≡ length (queue ++ (e ∷ [])) = omega (arith, length_push queue e) in
              subst (λ (t : ℕ). Spread (Hop f g end s) (Seen f g end s) g (distance_in (set table e n)) (λ k. get_or (queue ++ (e ∷ [])) k 0) head t) one_more
              (spread_more (Hop f g end s) (Seen f g end s) (hop_seen f g end s) g (distance_in table) (λ k. get_or queue k 0)
              (distance_in (set table e n)) (λ k. get_or (queue ++ (e ∷ [])) k 0) head (length queue) e E.spreading E.left (omega (arith, put_room)) far
              (subst (λ (x : ℕ). Hop f g end s e x) (sym E.first) (E.spreading.unseen e far, beside_sym f c e to.beside, E.enters))
              (at_e ∙ (is_next ∙ ap (λ (x : ℕ). suc (distance_in table x)) (sym E.first)))
              off_e
              (get_or_push queue e 0 (length queue) refl)
              stay)

          pub put_kept : distance_in (set table e n) c ≡ distance_in table c
          put_kept = off_e c (λ z. let y : distance_in table c ≡ distance_in table e = ap (distance_in table) z in omega (arith, expand_small))

          known : (x : ℕ) → (distance_in table x ≡ 65535 → ⊥) → distance_in (set table e n) x ≡ 65535 → ⊥
          known x h z =
              ⊎_elim
              (λ (q : x ≡ e). let y : distance_in (set table e n) x ≡ n = ap (distance_in (set table e n)) q ∙ at_e in omega (arith, near))
              (λ ne. h (sym (off_e x ne) ∙ z))
              (cases_eq x e)

          pub expand_put : Expanding f g end s c (set table e n) (queue ++ (e ∷ [])) head (j + 1)
          expand_put =
              let none : weight n ≡ 0 = cond-false (eqb n 65535) 1 0 (ne_eqb n 65535 (λ z. omega (arith, near))) in
              record {
                table_long = length-set table e n ∙ E.table_long;
                left = omega (arith, E.left, length_push queue e);
                room = omega (arith, E.room, one, none, length_push queue e, sum_by-set weight table e n 0 put_long);
                spreading = grown;
                first = stay head (λ z. omega (arith, E.left)) ∙ E.first;
                enters = E.enters;
                passed = rank_more (Known f (set table e n) c) j d is
                    (λ b l x h. known x (E.passed b l x h))
                    (λ x h z. let q : x ≡ e = cc in let y : distance_in (set table e n) x ≡ n = ap (distance_in (set table e n)) q ∙ at_e in omega (arith, near));
              }

-- at first none of them is; the first of the queue may be entered, since it is known and the start is not
pub expand_start :
    (f : Field) (g : ℕ) (end : Bool) (s : ℕ) (table queue : List ℕ) (head : ℕ) → length table ≡ 4096
    → head < length queue → length queue + unknown table ≤ 4096 → Spreading f g end s table queue head → distance_in table s ≡ 65535
    → Expanding f g end s (get_or queue head 0) table queue head 0
expand_start f g end s table queue head long l room S far =
    let low : distance_in table (get_or queue head 0) ≤ head = S.small head l in
    record {
      table_long = long;
      left = l;
      room = room;
      spreading = S;
      first = refl;
      enters = ⊎_elim
          (λ e. let z : distance_in table (get_or queue head 0) ≡ distance_in table s = ap (distance_in table) e in absurd (omega arith))
          (λ h. h)
          (S.seen (get_or queue head 0) (omega arith));
      passed = λ d l e. absurd (omega arith);
    }
