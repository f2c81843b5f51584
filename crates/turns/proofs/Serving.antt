-- Whoever waits gets its step, in a field in which no part touches three bays: over the fleets at the choices of a row of ticks.
use Rattle.std.proofs.Common.{◌≡◌, ℕ, zero, suc, ◌+◌, ◌*◌, ◌<◌, ◌≤◌, Bool, true, false, cond, not, ◌&&◌, eqb, ◌⊎◌, List, [], ◌∷◌, length, get_or, sym, refl, ap, ◌∙◌, subst, inl, inr, ⊎_elim, arith}
use Rattle.std.proofs.lemmas.Bool.{both_ways, cases_Bool, cases_eq, cond-true, cond-false, cond_both, and_parts, and_from, or_cases, not-true, not_from_false, eqb-true, eqb-false, eq-eqb, ne_eqb, false_from_ne_true}
use Rattle.rules.specs.Tests.{among, is_empty}
use Rattle.rules.specs.Field.{Field, sound}
use Rattle.rules.specs.Route.{route_ok}
use Rattle.rules.specs.Shuttle.{Shuttle, Fleet, holds}
use Rattle.rules.proofs.Tests.{empty_from}
use Rattle.agents.proofs.Tests.{some_below}
use Rattle.promise.proofs.Shuttles.{blocks_is}
use Rattle.promise.proofs.Places.{bays_differ, route_avoids, idle_home}
use Rattle.turns.specs.Tick.{waits, one_more}
use Rattle.turns.specs.Parts.{open_square, AtMostTwo, parts, touches}
use Rattle.turns.proofs.Finding.{two_touch}
use Rattle.turns.proofs.Fair.{turn_comes}
use Rattle.turns.proofs.Choices.{Choices, waits_from, waits_tells, waits_not, holds_at, more_least, stops, shorter}
use Rattle.turns.proofs.Parts.{step_own, next_is, not_bay, first_part, one_part, held_own, stands_holds, Clear, clear_granted, no_pair}

module _ (f : Field) (ok : sound f ≡ true) (two : AtMostTwo f) (d : ℕ) (h : ℕ → Fleet) (w : ℕ → ℕ → ℕ) (c : ℕ → ℕ)
    (due : ℕ → ℕ → Bool) (r : Choices f d h w c due) where
  grow : (t i : ℕ) → i < f.shuttles → w (suc t) i ≤ suc (w t i)
  grow t i l =
      let e = r.counting t i l in
      let a = more_least (h (suc t) i) (cond (eqb i (c t)) 0 (w t i)) in
      let b : cond (eqb i (c t)) 0 (w t i) ≤ w t i = cond_both (eqb i (c t)) 0 (w t i) (λ x. x ≤ w t i) (λ _. omega arith)
      (λ _. omega arith) in
      omega arith

  again : (t : ℕ) → c t < f.shuttles → w (suc t) (c t) ≤ 1
  again t l =
      let e = r.counting t (c t) l in
      let a = more_least (h (suc t) (c t)) (cond (eqb (c t) (c t)) 0 (w t (c t))) in
      let b : cond (eqb (c t) (c t)) 0 (w t (c t)) ≡ 0 = cond-true _ 0 (w t (c t)) (eq-eqb (c t) (c t) refl) in
      omega arith

  -- one that waits and is not chosen has waited one more
  longer : (t i : ℕ) → i < f.shuttles → (c t ≡ i → ⊥) → waits (h (suc t) i) ≡ true → w (suc t) i ≡ suc (w t i)
  unfolding one_more
  longer t i l ne v =
      r.counting t i l ∙ cond-true _ _ 0 v ∙ ap suc (cond-false (eqb i (c t)) 0 (w t i) (ne_eqb i (c t) (λ q. ne (sym q))))

  -- nobody else is in somebody's bay
  own_bay : (t i j : ℕ) → i < f.shuttles → j < f.shuttles → (i ≡ j → ⊥) → holds (h t j) (f.bay i) ≡ true → ⊥
  own_bay t i j l m ne v = ⊎_elim
      (λ (e : f.bay i ≡ f.bay j). ne (bays_differ f ok i j l m e))
      (λ (o : (open_square f (f.bay i) ≡ true) × (touches f (parts f) j (get_or (parts f) (f.bay i) 0) ≡ true)). not_bay f i (f.bay i) l
      o.0 refl)
      (held_own f j (h t j) (r.own t j m) (f.bay i) v)

  -- who holds an open square touches its part
  touching : (t j x : ℕ) → j < f.shuttles → open_square f x ≡ true → holds (h t j) x ≡ true → touches f (parts f) j
      (get_or (parts f) x 0) ≡ true
  touching t j x m o v = ⊎_elim (λ (e : x ≡ f.bay j). absurd (not_bay f j x m o e))
      (λ (q : (open_square f x ≡ true) × (touches f (parts f) j (get_or (parts f) x 0) ≡ true)). q.1)
      (held_own f j (h t j) (r.own t j m) x v)

  -- shuttle a, which waits as it is in s
  module _ (a : ℕ) (l : a < f.shuttles) (s : Shuttle) (stands : s.moving ≡ false) (left : is_empty s.route ≡ false) where
    -- a is granted its step within so many ticks from t, and waits until then
    abbrev Served : ℕ → ℕ → Type 0
    Served b t = (k : ℕ) × (k < b) × (h (t + k) a ≡ s) × (c (t + k) ≡ a)

    later : (b b' j t : ℕ) → j + b ≤ b' → Served b (t + j) → Served b' t
    later b b' j t q (k, x, y, z) =
        let e : (t + j) + k ≡ t + (j + k) = omega arith in (j + k, omega arith, subst (λ u. h u a ≡ s) e y, subst (λ u. c u ≡ a) e z)

    at_once : (b t : ℕ) → 0 < b → h t a ≡ s → c t ≡ a → Served b t
    at_once b t q e v = let z : t ≡ t + 0 = omega arith in (0, q, subst (λ u. h u a ≡ s) z e, subst (λ u. c u ≡ a) z v)

    stays : (t : ℕ) → h t a ≡ s → (c t ≡ a → ⊥) → h (suc t) a ≡ s
    stays t e ne = r.waiting t a l ne (ap (λ x. x.moving) e ∙ stands) (ap (λ x. is_empty x.route) e ∙ left) ∙ e

    waits_a : (t : ℕ) → h t a ≡ s → waits (h t a) ≡ true
    waits_a t e = waits_from (h t a) (ap (λ x. x.moving) e ∙ stands) (ap (λ x. is_empty x.route) e ∙ left)

    -- after any number of ticks it was served or still waits
    until : (j t : ℕ) → h t a ≡ s → Served j t ⊎ (h (t + j) a ≡ s)
    until zero t e = let z : t ≡ t + 0 = omega arith in inr (subst (λ u. h u a ≡ s) z e)
    until (suc j) t e =
        let rest : h (suc t) a ≡ s → Served j (suc t) ⊎ (h (suc t + j) a ≡ s) = until j (suc t) in
        let y : suc t ≡ t + 1 = omega arith in
        let z : suc t + j ≡ t + suc j = omega arith in
        ⊎_elim (λ q. inl (at_once (suc j) t (omega arith) e q))
        (λ ne. ⊎_elim (λ q. inl (later j (suc j) 1 t (omega arith) (subst (Served j) y q))) (λ q. inr (subst (λ u. h u a ≡ s) z q))
        (rest (stays t e ne)))
        (cases_eq (c t) a)

    clear_longest : (t : ℕ) → h t a ≡ s → Clear f (h t) a → (c t < f.shuttles) × (w t a ≤ w t (c t))
    clear_longest t e q = r.longest t a l (clear_granted f (h t) (r.good t) a l (ap (λ x. x.moving) e ∙ stands)
        (ap (λ x. is_empty x.route) e ∙ left) q)

    -- where a is always clear, it is served within n ticks
    alone : ((t : ℕ) → h t a ≡ s → Clear f (h t) a) → (t : ℕ) → h t a ≡ s → Served f.shuttles t
    alone q t e =
        let (k, x, y, z) = turn_comes f.shuttles w c a l (λ t. h t a ≡ s) (λ _. ⊥) grow again (λ t e. clear_longest t e (q t e))
        (λ t e. r.waited t a l (waits_a t e))
        (λ t e. ⊎_elim inl (λ ne. let e' = stays t e ne in inr (inr (e', longer t a l ne (waits_a (suc t) e')))) (cases_eq (c t) a)) t e in
        (k, x, y, ⊎_elim (λ v. v) (λ (v : ⊥). absurd v) z)

    -- the squares that a has left are its bay or in one part p, which another, b, touches too, and nobody else
    module _ (p : ℕ) (squares : (x : ℕ) → among x s.route ≡ true → (x ≡ f.bay a) ⊎ ((open_square f x ≡ true) × (get_or (parts f) x 0 ≡ p)))
        (b : ℕ) (m : b < f.shuttles) (ne : a ≡ b → ⊥)
        (only : (j : ℕ) → j < f.shuttles → (a ≡ j → ⊥) → touches f (parts f) j p ≡ true → j ≡ b) where
      -- if b stands beside its way, a is clear
      a_clear : (t : ℕ) → h t a ≡ s → (h t b).moving ≡ false → among (h t b).at s.route ≡ false → Clear f (h t) a
      a_clear t e v u j mj nj x i = false_from_ne_true _ (λ y.
          let i' = subst (λ q. among x q.route ≡ true) e i in
          ⊎_elim
          (λ (z : x ≡ f.bay a). own_bay t a j l mj nj (subst (λ q. holds (h t j) q ≡ true) z y))
          (λ (z : (open_square f x ≡ true) × (get_or (parts f) x 0 ≡ p)).
          let same : j ≡ b = only j mj nj (subst (λ q. touches f (parts f) j q ≡ true) z.1 (touching t j x mj z.0 y)) in
          let here : (h t b).at ≡ x = stands_holds (h t b) x v (subst (λ q. holds (h t q) x ≡ true) same y) in
          both_ways _ u (subst (λ q. among q s.route ≡ true) (sym here) i'))
          (squares x i'))

      -- if b stands in its way, b is clear
      b_clear : (t : ℕ) → h t a ≡ s → (h t b).moving ≡ false → among (h t b).at s.route ≡ true → Clear f (h t) b
      b_clear t e v u j mj nj x i = false_from_ne_true _ (λ y. ⊎_elim
          (λ (z : x ≡ f.bay b). own_bay t b j m mj nj (subst (λ q. holds (h t j) q ≡ true) z y))
          (λ (z : (open_square f x ≡ true) × (get_or (parts f) x 0 ≡ get_or (parts f) (h t b).at 0)).
          let t' : touches f (parts f) j p ≡ true = subst (λ q. touches f (parts f) j q ≡ true) (z.1 ∙ place.1)
          (touching t j x mj z.0 y) in
          ⊎_elim
          (λ (q : a ≡ j).
          let here : (h t a).at ≡ x = stands_holds (h t a) x (ap (λ k. k.moving) e ∙ stands)
          (subst (λ k. holds (h t k) x ≡ true) (sym q) y) in
          no_pair ((r.good t).all_go a l) b m ne (blocks_is (h t) a b ∙ ap (λ k. among (h t b).at k.route) e ∙ u)
          (blocks_is (h t) b a ∙ subst (λ k. among k (h t b).route ≡ true) (sym here) i))
          (λ (q : a ≡ j → ⊥). nj (sym (only j mj q t')))
          (cases_eq a j))
          (one_part f b (h t b).at (h t b).route place.0 ((r.good t).each b m).on_route x i))
        where
          place : (open_square f (h t b).at ≡ true) × (get_or (parts f) (h t b).at 0 ≡ p)
          place = ⊎_elim
              (λ (z : (h t b).at ≡ f.bay a). absurd (own_bay t a b l m ne (subst (λ q. holds (h t b) q ≡ true) z (holds_at (h t b)))))
              (λ z. z) (squares (h t b).at u)

      Pair : Shuttle → ℕ → Type 0
      Pair o t = (h t a ≡ s) × (h t b ≡ o)

      -- while both wait, one of them is chosen within n ticks
      one_goes : (t : ℕ) → h t a ≡ s → (h t b).moving ≡ false → is_empty (h t b).route ≡ false →
          (k : ℕ) × (k < f.shuttles) × Pair (h t b) (t + k) × ((c (t + k) ≡ a) ⊎ (c (t + k) ≡ b))
      unfolding Pair
      one_goes t e v u = ⊎_elim
          (λ (i : among (h t b).at s.route ≡ true).
          let (k, x, y, z) = turn_comes f.shuttles w c b m (Pair o) (λ t. c t ≡ a) grow again
          (λ t j. r.longest t b m (clear_granted f (h t) (r.good t) b m (b_stands t j) (b_left t j)
          (b_clear t j.0 (b_stands t j) (ap (λ q. among q.at s.route) j.1 ∙ i))))
          (λ t j. r.waited t b m (waits_from (h t b) (b_stands t j) (b_left t j)))
          (λ t j. ⊎_elim inl (λ nb. ⊎_elim (λ z. inr (inl z)) (λ na. inr (inr (
            on t j na nb,
            longer t b m nb (waits_from (h (suc t) b) (b_stands (suc t) (on t j na nb)) (b_left (suc t) (on t j na nb))),
          ))) (cases_eq (c t) a)) (cases_eq (c t) b))
          t (e, refl) in
          (k, x, y, ⊎_elim inr inl z))
          (λ (i : among (h t b).at s.route ≡ false).
          turn_comes f.shuttles w c a l (Pair o) (λ t. c t ≡ b) grow again
          (λ t j. clear_longest t j.0 (a_clear t j.0 (b_stands t j) (ap (λ q. among q.at s.route) j.1 ∙ i)))
          (λ t j. r.waited t a l (waits_a t j.0))
          (λ t j. ⊎_elim inl (λ na. ⊎_elim (λ z. inr (inl z))
          (λ nb. inr (inr (on t j na nb, longer t a l na (waits_a (suc t) (on t j na nb).0))))
          (cases_eq (c t) b)) (cases_eq (c t) a))
          t (e, refl))
          (cases_Bool (among (h t b).at s.route))
        where
          o : Shuttle
          o = h t b

          b_stands : (t : ℕ) → Pair o t → (h t b).moving ≡ false
          b_stands t j = ap (λ q. q.moving) j.1 ∙ v

          b_left : (t : ℕ) → Pair o t → is_empty (h t b).route ≡ false
          b_left t j = ap (λ q. is_empty q.route) j.1 ∙ u

          on : (t : ℕ) → Pair o t → (c t ≡ a → ⊥) → (c t ≡ b → ⊥) → Pair o (suc t)
          on t j na nb = (stays t j.0 na, r.waiting t b m nb (b_stands t j) (b_left t j) ∙ j.1)

      -- once b has been home, it is not chosen before a
      Behind : ℕ → Type 0
      Behind t = (h t a ≡ s) × ((h t b).moving ≡ false) × ((h t b).at ≡ f.bay b) × (w t b < w t a)

      behind : (t : ℕ) → h t a ≡ s → (h t b).moving ≡ false → is_empty (h t b).route ≡ true → Served f.shuttles t
      unfolding Behind
      behind t e v u =
          let z = r.not_waited t b m (waits_not (h t b) u) in
          let y = r.waited t a l (waits_a t e) in
          let (k, x, j, q) = turn_comes f.shuttles w c a l Behind (λ _. ⊥) grow again first (λ t j. r.waited t a l (waits_a t j.0))
          (λ t j. ⊎_elim inl (λ na. let j' = on t j na in inr (inr (j', longer t a l na (waits_a (suc t) j'.0)))) (cases_eq (c t) a))
          t (e, v, idle_home ((r.good t).each b m) u, omega arith) in
          (k, x, j.0, ⊎_elim (λ v. v) (λ (v : ⊥). absurd v) q)
        where
          first : (t : ℕ) → Behind t → (c t < f.shuttles) × (w t a ≤ w t (c t))
          first t j = clear_longest t j.0 (a_clear t j.0 j.1 (false_from_ne_true _ (λ i.
              ne (route_avoids f ok a b l m (h t a).at (h t a).route ((r.good t).each a l).on_route
              (subst (λ q. among (f.bay b) q.route ≡ true) (sym j.0) (subst (λ q. among q s.route ≡ true) j.2 i))))))

          on : (t : ℕ) → Behind t → (c t ≡ a → ⊥) → Behind (suc t)
          on t j na =
              let (x, y) = first t j in
              let z = j.3 in
              let nb : c t ≡ b → ⊥ = λ q. let q' : w t (c t) ≡ w t b = ap (w t) q in omega arith in
              let e' = stays t j.0 na in
              let still : ((h (suc t) b).at ≡ (h t b).at) × ((h (suc t) b).moving ≡ false) = ⊎_elim (λ u. r.idling t b m j.1 u)
              (λ u. let q = r.waiting t b m nb j.1 u in (ap (λ k. k.at) q, ap (λ k. k.moving) q ∙ j.1))
              (cases_Bool (is_empty (h t b).route)) in
              let g = grow t b m in
              let g' = longer t a l na (waits_a (suc t) e') in
              (e', still.1, still.0 ∙ j.2, omega arith)

      -- what b that stands with something left comes to, a comes to within n and d ticks more
      from_any : (n t : ℕ) → h t a ≡ s → length (h t b).route ≤ n →
          ((t : ℕ) → h t a ≡ s → length (h t b).route ≤ n → (h t b).moving ≡ false → is_empty (h t b).route ≡ false →
          Served (f.shuttles + n * (f.shuttles + d)) t) →
          Served (suc n * (f.shuttles + d)) t
      from_any n t e q more = ⊎_elim
          (λ (v : (h t b).moving ≡ true).
          let (k, x, y) = r.soon t b m v in
          let (j, le, z, same) = stops f d h w c due r b m k t v y in
          let len : length (h (t + j) b).route ≡ length (h t b).route = ap length same in
          ⊎_elim
          (λ o. weaker j t (omega arith) o)
          (λ o. later (f.shuttles + n * (f.shuttles + d)) (suc n * (f.shuttles + d)) j t (omega arith) (stood (t + j) o (omega arith) z))
          (until j t e))
          (λ (v : (h t b).moving ≡ false). weaker (f.shuttles + n * (f.shuttles + d)) t (omega arith) (stood t e q v))
          (cases_Bool (h t b).moving)
        where
          weaker : (k t : ℕ) → k ≤ suc n * (f.shuttles + d) → Served k t → Served (suc n * (f.shuttles + d)) t
          weaker k t le z = (z.0, let u = z.1 in omega arith, z.2, z.3)

          stood : (t : ℕ) → h t a ≡ s → length (h t b).route ≤ n → (h t b).moving ≡ false → Served (f.shuttles + n * (f.shuttles + d)) t
          stood t e q v = ⊎_elim
              (λ u. let z = behind t e v u in (z.0, let y = z.1 in omega arith, z.2, z.3))
              (λ u. more t e q v u)
              (cases_Bool (is_empty (h t b).route))

      -- so a is served within so many ticks for each square that b has left, and once more
      served : (n t : ℕ) → h t a ≡ s → length (h t b).route ≤ n → Served (suc n * (f.shuttles + d)) t
      unfolding Pair
      served zero t e q = from_any zero t e q (λ t e q _ u. absurd (both_ways _ u (empty_from (h t b).route (omega arith))))
      served (suc n) t e q = from_any (suc n) t e q (λ t e q v u.
          let next : (t : ℕ) → h t a ≡ s → length (h t b).route ≤ n → Served (suc n * (f.shuttles + d)) t = served n in
          let (k, x, y, z) = one_goes t e v u in
          ⊎_elim
          (λ (g : c (t + k) ≡ a). (k, omega arith, y.0, g))
          (λ (g : c (t + k) ≡ b).
          let e' = stays (t + k) y.0 (λ g'. ne (sym g' ∙ g)) in
          let len = shorter f d h w c due r b m (t + k) g (ap (λ o. is_empty o.route) y.1 ∙ u) in
          let len' : length (h (t + k) b).route ≡ length (h t b).route = ap (λ o. length o.route) y.1 in
          let i : suc (t + k) ≡ t + suc k = omega arith in
          later (suc n * (f.shuttles + d)) (f.shuttles + suc n * (f.shuttles + d)) (suc k) t (omega arith)
          (subst (Served (suc n * (f.shuttles + d))) i (next (suc (t + k)) e' (omega arith))))
          z)

    few : (t : ℕ) → Served f.shuttles t → Served (257 * (f.shuttles + d)) t
    few t (k, x, y, z) = (k, omega arith, y, z)

    -- only its bay is left
    to_bay : (t : ℕ) → h t a ≡ s → (x : ℕ) (xs : List ℕ) → s.route ≡ x ∷ xs → x ≡ f.bay a → is_empty xs ≡ true →
        Served (257 * (f.shuttles + d)) t
    unfolding is_empty among
    to_bay t e₀ x xs e q u = few t (alone (λ t' e' j m ne y i. false_from_ne_true _ (λ o.
        let z : y ≡ f.bay a = last xs u y (subst (λ k. among y k ≡ true) (ap (λ k. k.route) e' ∙ e) i) ∙ q in
        own_bay t' a j l m ne (subst (λ y. holds (h t' j) y ≡ true) z o))) t e₀)
      where
        last : (xs : List ℕ) → is_empty xs ≡ true → (y : ℕ) → among y (x ∷ xs) ≡ true → y ≡ x
        last [] u y i = ⊎_elim (λ o. eqb-true y x o) (λ o. absurd (both_ways false refl o)) (or_cases _ _ i)
        last (z ∷ zs) u y i = absurd (both_ways false refl u)

    -- its next square is open: either another touches its part or nobody does
    module _ (t : ℕ) (e₀ : h t a ≡ s) (x : ℕ) (xs : List ℕ) (e : s.route ≡ x ∷ xs) (o : open_square f x ≡ true)
        (on_route : route_ok f a (h t a).at (x ∷ xs) ≡ true) where
      squares : (y : ℕ) → among y s.route ≡ true → (y ≡ f.bay a) ⊎ ((open_square f y ≡ true) × (get_or (parts f) y 0 ≡ get_or (parts f) x 0))
      squares y i = first_part f a (h t a).at x xs o on_route y (subst (λ q. among y q ≡ true) e i)

      touches_a : touches f (parts f) a (get_or (parts f) x 0) ≡ true
      touches_a = ⊎_elim (λ (q : x ≡ f.bay a). absurd (not_bay f a x l o q))
          (λ (q : (open_square f x ≡ true) × (touches f (parts f) a (get_or (parts f) x 0) ≡ true)). q.1)
          (step_own f a (h t a).at x xs on_route (r.own t a l).here)

      open_way : Served (257 * (f.shuttles + d)) t
      open_way = ⊎_elim
          (λ (g : (j : ℕ) × (j < f.shuttles) × ((not (eqb a j) && touches f (parts f) j (get_or (parts f) x 0)) ≡ true)).
          let (b, m, q) = g in
          let (q₁, q₂) = and_parts (not (eqb a b)) (touches f (parts f) b (get_or (parts f) x 0)) q in
          let ne = eqb-false a b (not-true _ q₁) in
          served (get_or (parts f) x 0) squares b m ne
          (λ j mj nj tj. ⊎_elim (λ z. absurd (ne z)) (λ z. ⊎_elim (λ z. absurd (nj z)) (λ (z : b ≡ j). sym z) z)
          (two_touch f two a b j (get_or (parts f) x 0) l m mj touches_a q₂ tj))
          256 t e₀ (r.own t b m).short)
          (λ (g : (j : ℕ) → j < f.shuttles → (not (eqb a j) && touches f (parts f) j (get_or (parts f) x 0)) ≡ false).
          few t (alone (λ t' e' j m ne y i. false_from_ne_true _ (λ v. ⊎_elim
          (λ (z : y ≡ f.bay a). own_bay t' a j l m ne (subst (λ y. holds (h t' j) y ≡ true) z v))
          (λ (z : (open_square f y ≡ true) × (get_or (parts f) y 0 ≡ get_or (parts f) x 0)). both_ways _ (g j m)
          (and_from _ _ (not_from_false _ (ne_eqb a j ne))
          (subst (λ q. touches f (parts f) j q ≡ true) z.1 (touching t' j y m z.0 v))))
          (squares y (subst (λ k. among y k.route ≡ true) e' i)))) t e₀))
          (some_below f.shuttles (λ j. not (eqb a j) && touches f (parts f) j (get_or (parts f) x 0)))

    by_route : (t : ℕ) → h t a ≡ s → (q : List ℕ) → s.route ≡ q → Served (257 * (f.shuttles + d)) t
    unfolding is_empty
    by_route t e₀ [] e = absurd (both_ways true (ap is_empty (sym e) ∙ left) refl)
    by_route t e₀ (x ∷ xs) e =
        let on_route : route_ok f a (h t a).at (x ∷ xs) ≡ true = subst (λ q. route_ok f a (h t a).at q ≡ true) (ap (λ k. k.route) e₀ ∙ e)
        ((r.good t).each a l).on_route in
        ⊎_elim
        (λ (o : open_square f x ≡ true). open_way t e₀ x xs e o on_route)
        (λ (o : (x ≡ f.bay a) × (is_empty xs ≡ true)). to_bay t e₀ x xs e o.0 o.1)
        (next_is f a (h t a).at x xs on_route)

  -- whoever waits at a choice is granted its step within so many ticks, and waits as it is until then
  pub gets_step : (t a : ℕ) → a < f.shuttles → waits (h t a) ≡ true →
      (k : ℕ) × (k < 257 * (f.shuttles + d)) × (h (t + k) a ≡ h t a) × (c (t + k) ≡ a)
  gets_step t a l v = by_route a l (h t a) (waits_tells (h t a) v).0 (waits_tells (h t a) v).1 t refl (h t a).route refl
