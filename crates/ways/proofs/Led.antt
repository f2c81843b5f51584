-- Leg by leg: what has been driven so far, so that the best of what is left makes the best of all.
use Rattle.std.proofs.Common.{◌≡◌, ℕ, ◌+◌, ◌<◌, ◌≤◌, true, List, [], ◌∷◌, ◌++◌, length, sym, refl, ap, ◌∙◌, subst, inl, ⊎_elim, append_assoc, arith}
use Rattle.std.proofs.lemmas.List.{length-append, append-nil, nil_from_length}
use Rattle.std.proofs.lemmas.Bool.{cases_eq}
use Rattle.rules.specs.Tests.{is_empty}
use Rattle.rules.specs.Field.{Field}
use Rattle.rules.proofs.Tests.{empty_tells}
use Rattle.ways.specs.Shortest.{Through, Shortest, Nowhere}
use Rattle.ways.specs.Good.{past, Good, final, Best, Ends}
use Rattle.ways.specs.Leg.{Bounds, Falls}
use Rattle.ways.proofs.Greedy.{past_here, past_other, met_visits, visits_end, visits_front}
use Rattle.ways.proofs.Good.{route_ends, good_drop, good_put, good_none}
use Rattle.ways.proofs.Leg.{arrives, falls_length, leg_best}

-- w leads from c₀ to c, with gs left of gs₀: with the best from c it is the best from c₀, and no good one from c₀ is shorter than w and a good one from c
pub record Led (f : Field) (i c₀ : ℕ) (gs₀ w : List ℕ) (c : ℕ) (gs : List ℕ) : Type 0 where
  pub best : (v : List ℕ) → Best f i c gs v → Best f i c₀ gs₀ (w ++ v)
  pub left : (r : List ℕ) → Good f i c₀ gs₀ r → (s : List ℕ) × Good f i c gs s × (length w + length s ≤ length r)

-- a last square that is followed by nothing else is the one that the row ends in
pub ends_home : (b g : ℕ) (gs : List ℕ) → Ends b (g ∷ gs) → final g gs ≡ true → g ≡ b
unfolding final is_empty
ends_home b g [] e t = e
ends_home b g (h ∷ hs) e t =
    ⊎_elim
    (λ (q : g ≡ h).
    let n : past g hs ≡ [] = sym (past_here g hs) ∙ (ap (λ (x : ℕ). past g (x ∷ hs)) q ∙ empty_tells (past g (h ∷ hs)) t) in
    let t' : final h hs ≡ true = subst (λ (x : ℕ). final x hs ≡ true) q (subst (λ (x : List ℕ). is_empty x ≡ true) (sym n) refl) in
    q ∙ ends_home b h hs e t')
    (λ ne. cc (past_other g h hs ne, empty_tells (past g (h ∷ hs)) t))
    (cases_eq g h)

pub ends_rest : (b g : ℕ) (gs : List ℕ) → Ends b (g ∷ gs) → Ends b gs
ends_rest b g [] e = tt
ends_rest b g (h ∷ hs) e = e

pub ends_push : (b : ℕ) (gs : List ℕ) → Ends b (gs ++ (b ∷ []))
ends_push b [] = refl
ends_push b (g ∷ []) = refl
ends_push b (g ∷ (h ∷ hs)) = ends_push b (h ∷ hs)

best_drop : (f : Field) (i c : ℕ) (gs w : List ℕ) → Best f i c gs w → Best f i c (c ∷ gs) w
best_drop f i c gs w b =
    record {
      good = good_put f i c gs w b.good;
      least = λ r h. b.least r (good_drop f i c gs r h);
      first = λ r h l. b.first r (good_drop f i c gs r h) l;
    }

module _ (f : Field) (i c₀ : ℕ) (gs₀ : List ℕ) where
  -- at first no square is driven, and all of the row is left
  pub led_start : Led f i c₀ gs₀ [] c₀ gs₀
  led_start = record { best = λ v b. b; left = λ r h. (r, h, omega arith) }

  -- a square of the row that one stands on is met
  pub led_met : (w : List ℕ) (c : ℕ) (gs : List ℕ) → Led f i c₀ gs₀ w c (c ∷ gs) → Led f i c₀ gs₀ w c gs
  led_met w c gs l =
      record {
        best = λ v b. l.best v (best_drop f i c gs v b);
        left = λ r h. let s = l.left r h in (s.0, good_drop f i c gs s.0 s.1, s.2);
      }

  -- a leg more
  pub led_leg :
      (w : List ℕ) (c g : ℕ) (gs : List ℕ) (P : ℕ → ℕ) → Led f i c₀ gs₀ w c (g ∷ gs) → Ends (f.bay i) (g ∷ gs)
      → Bounds f g (final g gs) c P → (u : List ℕ) → Falls f g (final g gs) P c u → Led f i c₀ gs₀ (w ++ u) g gs
  led_leg w c g gs P l e B u F =
      record {
        best = λ v b. subst (λ (x : List ℕ). Best f i c₀ gs₀ x) (sym (append_assoc w u v))
            (l.best (u ++ v) (leg_best f i g gs c P B (ends_home (f.bay i) g gs e) v (best_drop f i g gs v b) u F));
        left = λ r h.
            let s = l.left r h in
            let a = arrives f i g gs c P B s.0 c (inl refl) s.1 in
            (a.0, good_drop f i g gs a.0 a.1, omega (arith, s.2, a.2, length-append w u, falls_length f g (final g gs) P B.at_goal u c F));
      }

  -- a leg that leads too far: none is short enough
  pub led_far :
      (n : ℕ) (w : List ℕ) (c g : ℕ) (gs : List ℕ) (P : ℕ → ℕ) → Led f i c₀ gs₀ w c (g ∷ gs)
      → Bounds f g (final g gs) c P → n < length w + P c → (r : List ℕ) → Good f i c₀ gs₀ r → n < length r
  led_far n w c g gs P l B far r h =
      let s = l.left r h in
      let a = arrives f i g gs c P B s.0 c (inl refl) s.1 in
      omega (arith, s.2, a.2)

  -- in the bay with nothing left
  pub led_end : (w : List ℕ) (c : ℕ) → c ≡ f.bay i → Led f i c₀ gs₀ w c [] → Best f i c₀ gs₀ w
  led_end w c e l =
      subst (λ (x : List ℕ). Best f i c₀ gs₀ x) (append-nil w)
      (l.best [] (record {
        good = good_none f i c e;
        least = λ r h. omega arith;
        first = λ r h n. inl (nil_from_length r n);
      }))

-- what is good for the row with the bay at its end is what leads through the row
through_good : (f : Field) (i c : ℕ) (row s : List ℕ) → Through f i c row s → Good f i c (row ++ (f.bay i ∷ [])) s
through_good f i c row s t =
    record { route = t.route; met = visits_end c s row (f.bay i) (route_ends f i c s t.route) t.visits }

pub shortest_from_best :
    (f : Field) (i c : ℕ) (row w : List ℕ) → Best f i c (row ++ (f.bay i ∷ [])) w → length w ≤ 256 → Shortest f i c row w
shortest_from_best f i c row w b l =
    record {
      through = record {
        route = b.good.route;
        short = l;
        visits = visits_front row (f.bay i ∷ []) (c ∷ w) (met_visits c w (row ++ (f.bay i ∷ [])) b.good.met);
      };
      least = λ s t. b.least s (through_good f i c row s t);
      first = λ s t n ne. ⊎_elim (λ q. absurd (ne q)) (λ h. h) (b.first s (through_good f i c row s t) n);
    }

pub nowhere_from_far :
    (f : Field) (i c : ℕ) (row : List ℕ) → ((s : List ℕ) → Good f i c (row ++ (f.bay i ∷ [])) s → 256 < length s) → Nowhere f i c row
nowhere_from_far f i c row far s t = omega (arith, far s (through_good f i c row s t), t.short)
