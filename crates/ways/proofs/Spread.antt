-- Distances that spread from a goal, square by square in the order of a queue: what holds while they do, and at the end.
use Rattle.std.proofs.Common.{◌≡◌, ℕ, suc, ◌<◌, ◌≤◌, ◌⊎◌, sym, ap, ◌∙◌, subst, inl, inr, ⊎_elim, arith}
use Rattle.std.proofs.lemmas.Bool.{cases_eq}
use Rattle.ways.specs.Distances.{Done, Spread}

-- from c one may go to d by `Hop c d`, and `Seen c` holds of each square that one may go from
module _ (Hop : ℕ → ℕ → Type 0) (Seen : ℕ → Type 0) (hop_seen : (c d : ℕ) → Hop c d → Seen c) (g : ℕ) where
  -- at first only the goal is known
  pub spread_start :
      (T Q : ℕ → ℕ) → T g ≡ 0 → Q 0 ≡ g → Seen g → ((x : ℕ) → (x ≡ g → ⊥) → 65534 ≤ T x) → ((x : ℕ) → Seen x → (x ≡ g) ⊎ (T x ≡ 65535))
      → ((x : ℕ) → T x ≡ 65535 → Seen x) → Spread Hop Seen g T Q 0 1
  spread_start T Q e q s far m u =
      let only : (x : ℕ) → T x < 65534 → x ≡ g = λ x l. ⊎_elim (λ y. y) (λ ne. absurd (omega (arith, far x ne))) (cases_eq x g) in
      let zero_at : (x : ℕ) → T x < 65534 → T x ≡ 0 = λ x l. ap T (only x l) ∙ e in
      let first : (j : ℕ) → j < 1 → T (Q j) ≡ 0 = λ j l. let j0 : j ≡ 0 = omega arith in ap (λ (k : ℕ). T (Q k)) j0 ∙ (ap T q ∙ e) in
      record {
        order = omega arith;
        small = λ j l. omega (arith, first j l);
        sorted = λ j k a b l. let f = first j (omega arith) in omega arith;
        near = λ _ x l. omega (arith, zero_at x l);
        queued = λ x l. inr (0, omega arith, omega arith, q ∙ sym (only x l));
        falls = λ x l. inl (only x l);
        seen = λ x l. subst Seen (sym (only x l)) s;
        unseen = u;
        marked = λ x p. ⊎_elim (λ y. inl (let z = ap T y ∙ e in omega arith)) (λ z. inr z) (m x p);
        goal = e;
      }

  -- the first of the queue is done once none that may go to it is unknown
  pub spread_done :
      (T Q : ℕ → ℕ) (h t : ℕ) → Spread Hop Seen g T Q h t → h < t → ((c : ℕ) → Hop c (Q h) → T c ≡ 65535 → ⊥) → Spread Hop Seen g T Q (suc h) t
  spread_done T Q h t S l all =
      let done : Done Hop T (Q h) =
      λ c p. ⊎_elim (λ k. S.near l c k) (λ far. absurd (all c p far)) (S.marked c (hop_seen c (Q h) p)) in
      record {
        order = l;
        small = S.small;
        sorted = λ j k a b m. S.sorted j k (omega arith) b m;
        near = λ l' x k. let a = S.near l x k in let b = S.sorted h (suc h) (omega arith) (omega arith) l' in omega arith;
        queued = λ x k. ⊎_elim
            (λ d. inl d)
            (λ q. ⊎_elim
            (λ (e : h ≡ q.0). inl (subst (Done Hop T) (ap Q e ∙ q.3) done))
            (λ ne. inr (q.0, omega (arith, q.1), q.2, q.3))
            (cases_eq h q.0))
            (S.queued x k);
        falls = S.falls;
        seen = S.seen;
        unseen = S.unseen;
        marked = S.marked;
        goal = S.goal;
      }

  -- a square that is not known yet gets its distance, and is put at the end of the queue
  module _
      (T Q T' Q' : ℕ → ℕ) (h t y : ℕ) (S : Spread Hop Seen g T Q h t) (l : h < t) (room : t < 65000) (far : T y ≡ 65535) (hop : Hop y (Q h))
      (put : T' y ≡ suc (T (Q h))) (kept : (x : ℕ) → (x ≡ y → ⊥) → T' x ≡ T x) (at_end : Q' t ≡ y) (stay : (j : ℕ) → (j ≡ t → ⊥) → Q' j ≡ Q j) where
    other : (x : ℕ) → T x < 65534 → T' x ≡ T x
    other x k = kept x (λ e. let z : T x ≡ 65535 = ap T e ∙ far in omega arith)

    old : (j : ℕ) → j < t → T' (Q' j) ≡ T (Q j)
    old j k = ap T' (stay j (λ e. omega arith)) ∙ other (Q j) (let s = S.small j k in omega arith)

    known : (x : ℕ) → T' x < 65534 → (x ≡ y) ⊎ ((x ≡ y → ⊥) × (T x < 65534))
    known x k = ⊎_elim (λ e. inl e) (λ ne. inr (ne, let z = kept x ne in omega arith)) (cases_eq x y)

    done_kept : (x : ℕ) → T x < 65534 → Done Hop T x → Done Hop T' x
    done_kept x k d c p =
        let b : T c ≤ suc (T x) = d c p in
        ⊎_elim
        (λ (e : c ≡ y). let z : T c ≡ 65535 = ap T e ∙ far in absurd (omega arith))
        (λ ne. omega (arith, kept c ne, other x k))
        (cases_eq c y)

    new : (j : ℕ) → j ≡ t → T' (Q' j) ≡ suc (T (Q h))
    new j e = ap (λ (x : ℕ). T' (Q' x)) e ∙ (ap T' at_end ∙ put)

    pub spread_more : Spread Hop Seen g T' Q' h (suc t)
    spread_more =
        let first : T' (Q' h) ≡ T (Q h) = old h l in
        let low : T (Q h) ≤ h = S.small h l in
        record {
          order = omega arith;
          small = λ j k. ⊎_elim (λ e. omega (arith, new j e)) (λ ne. let a : j < t = omega arith in omega (arith, old j a, S.small j a)) (cases_eq j t);
          sorted = λ j k a b m. ⊎_elim
              (λ (e : k ≡ t). ⊎_elim
              (λ (e' : j ≡ t). omega (arith, new j e', new k e))
              (λ ne. let w : j < t = omega arith in let s : T (Q j) ≤ j = S.small j w in omega (arith, old j w, new k e, S.near l (Q j) (omega arith)))
              (cases_eq j t))
              (λ ne. let w : k < t = omega arith in let v : j < t = omega arith in omega (arith, old j v, old k w, S.sorted j k a b w))
              (cases_eq k t);
          near = λ _ x k. ⊎_elim
              (λ (e : x ≡ y). let z : T' x ≡ suc (T (Q h)) = ap T' e ∙ put in omega arith)
              (λ p. omega (arith, kept x p.0, S.near l x p.1))
              (known x k);
          queued = λ x k. ⊎_elim
              (λ (e : x ≡ y). inr (t, omega arith, omega arith, at_end ∙ sym e))
              (λ p. ⊎_elim
              (λ d. inl (done_kept x p.1 d))
              (λ q. inr (q.0, q.1, (let w = q.2 in omega arith), stay q.0 (λ e. let w = q.2 in omega arith) ∙ q.3))
              (S.queued x p.1))
              (known x k);
          falls = λ x k. ⊎_elim
              (λ (e : x ≡ y). inr (Q h, subst (λ (z : ℕ). Hop z (Q h)) (sym e) hop, ap T' e ∙ (put ∙ ap suc (sym (other (Q h) (omega arith))))))
              (λ p. ⊎_elim
              (λ e. inl e)
              (λ q. let w : T x ≡ suc (T q.0) = q.2 in let u : T x < 65534 = p.1 in
              inr (q.0, q.1, kept x p.0 ∙ (w ∙ ap suc (sym (other q.0 (omega arith))))))
              (S.falls x p.1))
              (known x k);
          seen = λ x k. ⊎_elim (λ e. subst Seen (sym e) (hop_seen y (Q h) hop)) (λ p. S.seen x p.1) (known x k);
          unseen = λ x k. ⊎_elim
              (λ (e : x ≡ y). let z : T' x ≡ suc (T (Q h)) = ap T' e ∙ put in absurd (omega arith))
              (λ ne. S.unseen x (sym (kept x ne) ∙ k))
              (cases_eq x y);
          marked = λ x s. ⊎_elim
              (λ (e : x ≡ y). inl (let z : T' x ≡ suc (T (Q h)) = ap T' e ∙ put in omega arith))
              (λ ne. ⊎_elim (λ k. inl (let z = kept x ne in omega arith)) (λ k. inr (kept x ne ∙ k)) (S.marked x s))
              (cases_eq x y);
          goal = let z : T g ≡ 0 = S.goal in other g (omega arith) ∙ z;
        }

  -- at the end, or once the distance of the start is known, no step to a square that is nearer than one before the start leads down by more than one
  pub spread_end :
      (T Q : ℕ → ℕ) (h t s : ℕ) → Spread Hop Seen g T Q h t → T s ≤ 65535 → (h ≡ t) ⊎ (T s < 65534)
      → (c d : ℕ) → Hop c d → suc (T d) < T s → T c ≤ suc (T d)
  spread_end T Q h t s S most over c d p l =
      ⊎_elim
      (λ z. z c p)
      (λ q. let e : T (Q q.0) ≡ T d = ap T q.3 in
      let a : h ≤ q.0 = q.1 in let b : q.0 < t = q.2 in
      let up : T (Q h) ≤ T (Q q.0) = S.sorted h q.0 (omega arith) a b in
      ⊎_elim (λ z. absurd (omega arith)) (λ k. let n = S.near (omega arith) s k in absurd (omega arith)) over)
      (S.queued d (omega arith))
