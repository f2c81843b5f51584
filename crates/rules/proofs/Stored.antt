-- Writing one shuttle into memory: what is read of it, of the others, and of each other place.
use Rattle.std.proofs.Common.{◌≡◌, ℕ, ◌+◌, ◌-◌, ◌*◌, ◌<◌, ◌≤◌, Bool, true, false, eqb, ◌⊎◌, List, length, get_or, take, drop, sym, refl, ap, ◌∙◌, inl, inr, ⊎_elim, add-zero, arith}
use Rattle.std.proofs.lemmas.List.{length-append, length-take, length-drop, length-take-le, get_or-take, get_or-drop, get_or_append_left, get_or-append_right, drop-drop, drop_at, take_at, ext_get_or}
use Rattle.std.proofs.lemmas.Bool.{cases_eq, cases_order, cond-true, cond-false, eq-eqb, ne_eqb}
use Rattle.rules.specs.Shuttle.{Shuttle, put}
use Rattle.rules.specs.Memory.{shuttle_in, shuttle_ok, mark, numbers_of, stored}

-- a part of two lists of one length is the same if each of its places is
same_part : (xs ys : List ℕ) (p k : ℕ) → length xs ≡ length ys
    → ((q : ℕ) → p ≤ q → q < p + k → get_or xs q 0 ≡ get_or ys q 0) → take k (drop p xs) ≡ take k (drop p ys)
same_part xs ys p k e h =
    ext_get_or 0 _ _ (simp (length-take, length-drop, e)) λ q l.
    let b : q < k = omega (arith, simp length-take at l) in
    rw (get_or-take, get_or-take, get_or-drop, get_or-drop) (h (p + q) (omega arith) (omega arith))

-- the 260 numbers of shuttle j are the same in both lists
abbrev pub Same : (xs ys : List ℕ) → ℕ → Type 0
Same xs ys j = (q : ℕ) → 260 * j ≤ q → q < 260 * j + 260 → get_or xs q 0 ≡ get_or ys q 0

module _ (xs ys : List ℕ) (j : ℕ) (e : length xs ≡ length ys) (h : Same xs ys j) (room : get_or xs (260 * j + 3) 0 ≤ 256) where
  same_route : take (get_or xs (260 * j + 3) 0) (drop (260 * j + 4) xs) ≡ take (get_or ys (260 * j + 3) 0) (drop (260 * j + 4) ys)
  same_route =
      same_part xs ys (260 * j + 4) _ e (λ q l b. h q (omega arith) (omega arith))
      ∙ ap (λ c. take c (drop (260 * j + 4) ys)) (h _ (omega arith) (omega arith))

  pub same_shuttle : shuttle_in xs j ≡ shuttle_in ys j
  unfolding shuttle_in
  same_shuttle =
      λ t.
      record {
        at = h (260 * j) (omega arith) (omega arith) t;
        moving = eqb (h (260 * j + 1) (omega arith) (omega arith) t) 1;
        behind = h (260 * j + 2) (omega arith) (omega arith) t;
        route = same_route t;
      }

  pub same_ok : (squares : ℕ) → shuttle_ok squares xs j ≡ shuttle_ok squares ys j
  unfolding shuttle_ok
  same_ok squares =
      rw (
        h (260 * j) (omega arith) (omega arith),
        h (260 * j + 1) (omega arith) (omega arith),
        h (260 * j + 2) (omega arith) (omega arith),
        same_route,
        h (260 * j + 3) (omega arith) (omega arith),
      )

mark_is : (b : Bool) → eqb (mark b) 1 ≡ b
unfolding mark
mark_is true = refl
mark_is false = refl

module _ (m : List ℕ) (i : ℕ) (s : Shuttle) (fits : 260 * i + 260 ≤ length m) (short : length s.route ≤ 256) where
  length_before : length (take (260 * i) m) ≡ 260 * i
  length_before = length-take-le (260 * i) m (omega arith)

  pub stored_length : length (stored m i s) ≡ length m
  unfolding stored numbers_of
  stored_length = simp (length-append, length_before, length-drop) (omega arith)

  -- a number of the shuttle, by its place among them
  pub stored_at : (k : ℕ) → k < 4 + length s.route → get_or (stored m i s) (260 * i + k) 0 ≡ get_or (numbers_of s) k 0
  unfolding stored numbers_of
  stored_at k l =
      let e : 260 * i + k - 260 * i ≡ k = omega arith in
      get_or-append_right (take (260 * i) m) _ (260 * i) (260 * i + k) 0 length_before (omega arith)
      ∙ (rw e (get_or_append_left (numbers_of s) _ 0 k (omega arith)))

  -- what is left of its route
  pub stored_route : take (length s.route) (drop (260 * i + 4) (stored m i s)) ≡ s.route
  unfolding stored numbers_of
  stored_route =
      ap (take (length s.route)) (sym (drop-drop 4 (260 * i) _) ∙ ap (drop 4) (drop_at (take (260 * i) m) _ (260 * i) length_before))
      ∙ take_at s.route _ _ refl

  pub stored_own : shuttle_in (stored m i s) i ≡ s
  unfolding shuttle_in numbers_of
  stored_own =
      let len : get_or (stored m i s) (260 * i + 3) 0 ≡ length s.route = stored_at 3 (omega arith) in
      λ t.
      record {
        at = (ap (λ q. get_or (stored m i s) q 0) (sym (add-zero (260 * i))) ∙ stored_at 0 (omega arith)) t;
        moving = (ap (λ n. eqb n 1) (stored_at 1 (omega arith)) ∙ mark_is s.moving) t;
        behind = stored_at 2 (omega arith) t;
        route = (ap (λ c. take c (drop (260 * i + 4) (stored m i s))) len ∙ stored_route) t;
      }

  pub stored_rest : (p : ℕ) → (p < 260 * i) ⊎ (260 * i + (4 + length s.route) ≤ p) → get_or (stored m i s) p 0 ≡ get_or m p 0
  unfolding stored numbers_of
  stored_rest p (inl l) = get_or_append_left (take (260 * i) m) _ 0 p (omega (arith, length_before)) ∙ get_or-take (260 * i) m p 0 l
  stored_rest p (inr l) =
      get_or-append_right (take (260 * i) m) _ (260 * i) p 0 length_before (omega arith)
      ∙ (get_or-append_right (numbers_of s) _ (4 + length s.route) (p - 260 * i) 0 (omega arith) (omega arith)
      ∙ (get_or-drop _ m _ 0 ∙ ap (λ q. get_or m q 0) (omega arith)))

  pub stored_same : (j : ℕ) → (j ≡ i → ⊥) → Same m (stored m i s) j
  stored_same j ne q a b = sym (stored_rest q (apart (cases_order j i)))
    where
      apart : (j ≡ i) ⊎ ((j < i) ⊎ (i < j)) → (q < 260 * i) ⊎ (260 * i + (4 + length s.route) ≤ q)
      apart (inl e) = absurd (ne e)
      apart (inr (inl l)) = inl (omega arith)
      apart (inr (inr l)) = inr (omega arith)

  pub stored_other : (j : ℕ) → (j ≡ i → ⊥) → get_or m (260 * j + 3) 0 ≤ 256 → shuttle_in (stored m i s) j ≡ shuttle_in m j
  stored_other j ne room = sym (same_shuttle m (stored m i s) j (sym stored_length) (stored_same j ne) room)

  -- each shuttle that has room for what is left of it is then read as in the fleet with the one written replaced
  pub stored_put : (j : ℕ) → ((j ≡ i → ⊥) → get_or m (260 * j + 3) 0 ≤ 256) → shuttle_in (stored m i s) j ≡ put (shuttle_in m) i s j
  unfolding put
  stored_put j room =
      ⊎_elim (λ (e : j ≡ i). rw e (stored_own ∙ sym (cond-true _ _ _ (eq-eqb i i refl))))
      (λ ne. stored_other j ne (room ne) ∙ sym (cond-false _ _ _ (ne_eqb j i ne))) (cases_eq j i)
