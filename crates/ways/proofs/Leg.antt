-- One leg of a way: numbers that fall by one at most with each step to the next square of the row show that the walk along which they fall,
-- by the first step that may be made, is the first of the shortest.
use Rattle.std.proofs.Common.{◌≡◌, ℕ, suc, ◌+◌, ◌≤◌, Bool, true, ◌⊎◌, List, [], ◌∷◌, ◌++◌, length, sym, refl, ap, ◌∙◌, subst, inl, inr, ⊎_elim, arith}
use Rattle.std.proofs.lemmas.Bool.{cases_eq, cases_order}
use Rattle.std.proofs.lemmas.List.{length-append, nil_from_length}
use Rattle.rules.specs.Field.{Field, is_bay}
use Rattle.ways.specs.Order.{turn, before}
use Rattle.ways.specs.Good.{Good, enter, final, Best}
use Rattle.ways.specs.Leg.{Bounds, Falls}
use Rattle.ways.proofs.Turn.{turn_same, before_now, before_later}
use Rattle.ways.proofs.Good.{enter_bay, good_end, good_next, good_step, good_stay}

-- the walk is as long as the numbers say
pub falls_length :
    (f : Field) (g : ℕ) (end : Bool) (P : ℕ → ℕ) → P g ≡ 0 → (w : List ℕ) (c : ℕ) → Falls f g end P c w → length w ≡ P c
falls_length f g end P z [] c e = sym z ∙ sym (ap P e)
falls_length f g end P z (d ∷ ds) c h = omega (arith, falls_length f g end P z ds d h.1, h.0.one)

module _ (f : Field) (i g : ℕ) (gs : List ℕ) (c₀ : ℕ) (P : ℕ → ℕ) (B : Bounds f g (final g gs) c₀ P) where
  -- whatever is good comes to g, no sooner than the numbers say
  pub arrives :
      (r : List ℕ) (c : ℕ) → (c ≡ c₀) ⊎ (enter f g (final g gs) c ≡ true) → Good f i c (g ∷ gs) r
      → (s : List ℕ) × Good f i g (g ∷ gs) s × (P c + length s ≤ length r)
  arrives r c seen h = ⊎_elim (λ e. here r c e h) (λ ne. go r c seen h ne) (cases_eq c g)
    where
      here : (r : List ℕ) (c : ℕ) → c ≡ g → Good f i c (g ∷ gs) r → (s : List ℕ) × Good f i g (g ∷ gs) s × (P c + length s ≤ length r)
      here r c e h = (r, subst (λ (x : ℕ). Good f i x (g ∷ gs) r) e h, omega (arith, B.at_goal, ap P e))

      go :
          (r : List ℕ) (c : ℕ) → (c ≡ c₀) ⊎ (enter f g (final g gs) c ≡ true) → Good f i c (g ∷ gs) r → (c ≡ g → ⊥)
          → (s : List ℕ) × Good f i g (g ∷ gs) s × (P c + length s ≤ length r)
      go [] c seen h ne = absurd (good_stay f i c g gs ne h)
      go (d ∷ ds) c seen h ne =
          let n = good_next f i c g d gs ds ne h in
          let t : (s : List ℕ) × Good f i g (g ∷ gs) s × (P d + length s ≤ length ds) =
          ⊎_elim (λ e. here ds d e n.2) (λ ne'. go ds d (inr n.1) n.2 ne') (cases_eq d g) in
          (t.0, t.1, omega (arith, t.2, B.lower c d seen n.0 n.1))

  -- the best from g, with the walk before it, is the best from c
  module _ (home : final g gs ≡ true → g ≡ f.bay i) (v : List ℕ) (V : Best f i g (g ∷ gs) v) where
    no_more : final g gs ≡ true → v ≡ []
    no_more t = nil_from_length v (omega (arith, V.least [] (good_end f i g gs (home t) t)))

    at_end : (w : List ℕ) (c : ℕ) → c ≡ g → Falls f g (final g gs) P c w → w ≡ []
    at_end [] c e h = refl
    at_end (d ∷ ds) c e h = absurd (h.0.off e)

    bay_ends :
        (w : List ℕ) (c : ℕ) → enter f g (final g gs) c ≡ true → Falls f g (final g gs) P c w → is_bay f c ≡ true
        → (c ≡ f.bay i) × (w ++ v ≡ [])
    bay_ends w c e h b =
        let q = enter_bay f g (final g gs) c e b in
        (q.0 ∙ home q.1, ap (λ (x : List ℕ). x ++ v) (at_end w c q.0 h) ∙ no_more q.1)

    falls_good : (w : List ℕ) (c : ℕ) → Falls f g (final g gs) P c w → Good f i c (g ∷ gs) (w ++ v)
    falls_good [] c e = subst (λ (x : ℕ). Good f i x (g ∷ gs) v) (sym e) V.good
    falls_good (d ∷ ds) c h = good_step f i c g d gs (ds ++ v) h.0.off h.0.next h.0.enters (bay_ends ds d h.0.enters h.1) (falls_good ds d h.1)

    falls_first :
        (w : List ℕ) (c : ℕ) (r : List ℕ) → (c ≡ c₀) ⊎ (enter f g (final g gs) c ≡ true) → Falls f g (final g gs) P c w → Good f i c (g ∷ gs) r
        → length r ≡ P c + length v → (r ≡ w ++ v) ⊎ (before f c (w ++ v) r ≡ true)
    falls_first [] c r seen e h l =
        let l' : length r ≡ length v = omega (arith, B.at_goal, ap P e) in
        subst (λ (x : ℕ). (r ≡ v) ⊎ (before f x v r ≡ true)) (sym e) (V.first r (subst (λ (x : ℕ). Good f i x (g ∷ gs) r) e h) l')
    falls_first (d ∷ ds) c [] seen w h l = absurd (good_stay f i c g gs w.0.off h)
    falls_first (d ∷ ds) c (e ∷ es) seen w h l =
        let n = good_next f i c g e gs es w.0.off h in
        let a = arrives es e (inr n.1) n.2 in
        let m : length v ≤ length a.0 = V.least a.0 a.1 in
        let up : P c ≤ suc (P e) = B.lower c e seen n.0 n.1 in
        let dn : suc (P e) ≤ P c = omega (arith, a.2) in
        ⊎_elim
        (λ (t : turn f c d ≡ turn f c e).
        let same : d ≡ e = turn_same f c d e w.0.next n.0 t in
        let ih = falls_first ds d es (inr w.0.enters) w.1 (subst (λ (x : ℕ). Good f i x (g ∷ gs) es) (sym same) n.2) (omega (arith, w.0.one)) in
        ⊎_elim
        (λ q. inl (ap (λ (x : ℕ). x ∷ es) (sym same) ∙ ap (λ (x : List ℕ). d ∷ x) q))
        (λ b. inr (subst (λ (x : ℕ). before f c (d ∷ (ds ++ v)) (x ∷ es) ≡ true) same (before_later f c d (ds ++ v) es b)))
        ih)
        (λ o. ⊎_elim
        (λ lt. inr (before_now f c d e (ds ++ v) es lt))
        (λ gt. let bad : P c ≤ P e = w.0.first e n.0 n.1 gt in absurd (omega arith))
        o)
        (cases_order (turn f c d) (turn f c e))

    pub leg_best : (w : List ℕ) → Falls f g (final g gs) P c₀ w → Best f i c₀ (g ∷ gs) (w ++ v)
    leg_best w h =
        let n : length (w ++ v) ≡ P c₀ + length v = omega (arith, length-append w v, falls_length f g (final g gs) P B.at_goal w c₀ h) in
        record {
          good = falls_good w c₀ h;
          least = λ r k. let a = arrives r c₀ (inl refl) k in omega (arith, a.2, V.least a.0 a.1);
          first = λ r k l. falls_first w c₀ r (inl refl) h k (l ∙ n);
        }
