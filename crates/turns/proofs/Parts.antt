-- Parts of a field: where a shuttle can be, who can hold a square of its route, and that it is granted its step where nobody does.
use Rattle.std.proofs.Common.{◌≡◌, ℕ, ◌<◌, ◌≤◌, Bool, true, false, eqb, ◌⊎◌, List, [], ◌∷◌, length, get_or, sym, refl, ap, ◌∙◌, subst, inl, inr, ⊎_elim, arith}
use Rattle.std.proofs.lemmas.Bool.{both_ways, cond_both, and_parts, and_from, or_cases, or_left, or_right, not-true, eqb-true, false_from_ne_true}
use Rattle.std.proofs.lemmas.Bool.Decides.{nat_tests}
use Rattle.rules.specs.Tests.{among, is_empty}
use Rattle.rules.specs.Field.{Field, is_bay, free_square, sound, beside}
use Rattle.rules.specs.Route.{route_ok}
use Rattle.rules.specs.Shuttle.{Shuttle, Fleet, holds, put, at_home, ordered, next_square, stepped, arrived}
use Rattle.rules.specs.Event.{Event, order, step, arrive, takes, grants, arrives, does, who, becomes, happens, after}
use Rattle.agents.specs.Numbers.{among as is_in}
use Rattle.agents.specs.Going.{CanGo, goes}
use Rattle.agents.specs.Kinds.{put as with_agent, FreeFor}
use Rattle.agents.proofs.Tests.{meets_tells}
use Rattle.agents.proofs.Fleets.{put_each}
use Rattle.agents.proofs.Grants.{may_free}
use Rattle.promise.specs.Promise.{Placed}
use Rattle.promise.specs.Rule.{shuttles}
use Rattle.promise.proofs.Shuttles.{among_is, holds_is}
use Rattle.promise.proofs.Places.{bay_is, route_tells, steps}
use Rattle.promise.proofs.Events.{takes_tells, grants_tells, grants_from, Good, good_after}
use Rattle.turns.specs.Parts.{open_square, linked, link, at_bay, parts, touches}
use Rattle.turns.proofs.Finding.{one_number, touches_from}

-- the squares where shuttle i can be: its bay, and the open squares of the parts that its bay touches
abbrev pub Own : Field → ℕ → ℕ → Type 0
Own f i c = (c ≡ f.bay i) ⊎ ((open_square f c ≡ true) × (touches f (parts f) i (get_or (parts f) c 0) ≡ true))

open_is : (f : Field) (c : ℕ) → open_square f c ≡ true → (free_square f c ≡ true) × (is_bay f c ≡ false)
unfolding open_square
open_is f c h = let (a, b) = and_parts _ _ h in (a, not-true _ b)

-- an open square is nobody's bay
pub not_bay : (f : Field) (j c : ℕ) → j < f.shuttles → open_square f c ≡ true → c ≡ f.bay j → ⊥
not_bay f j c l o e = both_ways _ (open_is f c o).1 (bay_is f j c l (sym e))

-- where a step leads: to an open square, or to the bay at the very end
pub next_is : (f : Field) (i c d : ℕ) (ds : List ℕ) → route_ok f i c (d ∷ ds) ≡ true →
    (open_square f d ≡ true) ⊎ ((d ≡ f.bay i) × (is_empty ds ≡ true))
unfolding open_square
next_is f i c d ds h =
    let s = route_tells f i c d ds h in
    ⊎_elim (λ o. inl (and_from _ _ s.free o)) (λ o. let (a, b) = and_parts _ _ o in inr (eqb-true _ _ a, b)) (or_cases _ _ s.bays)

module _ (f : Field) where
  -- open squares beside each other are in one part
  one_part_of : (c d : ℕ) → open_square f c ≡ true → open_square f d ≡ true → beside f c d ≡ true → get_or (parts f) c 0 ≡ get_or (parts f) d 0
  unfolding linked
  one_part_of c d a b e = one_number f (link c d (and_from _ _ a (and_from _ _ b e)))

  pub step_own : (i c d : ℕ) (ds : List ℕ) → route_ok f i c (d ∷ ds) ≡ true → Own f i c → Own f i d
  unfolding at_bay
  step_own i c d ds h m =
      let s = route_tells f i c d ds h in
      ⊎_elim
      (λ (o : open_square f d ≡ true). inr (
        o,
        ⊎_elim
            (λ (e : c ≡ f.bay i). touches_from f i d (get_or (parts f) d 0)
            (and_from _ _ o (subst (λ x. beside f x d ≡ true) e s.next_to)) refl)
            (λ (q : (open_square f c ≡ true) × (touches f (parts f) i (get_or (parts f) c 0) ≡ true)).
            subst (λ p. touches f (parts f) i p ≡ true) (one_part_of c d q.0 o s.next_to) q.1)
            m,
      ))
      (λ (o : (d ≡ f.bay i) × (is_empty ds ≡ true)). inl o.0)
      (next_is f i c d ds h)

  -- all open squares of a route from an open square are in its part
  pub one_part : (i c : ℕ) (r : List ℕ) → open_square f c ≡ true → route_ok f i c r ≡ true → (x : ℕ) → among x r ≡ true →
      (x ≡ f.bay i) ⊎ ((open_square f x ≡ true) × (get_or (parts f) x 0 ≡ get_or (parts f) c 0))
  unfolding among is_empty
  one_part i c [] o h x a = absurd (both_ways false refl a)
  one_part i c (d ∷ ds) o h x a =
      let s = route_tells f i c d ds h in
      let rest : open_square f d ≡ true → among x ds ≡ true → (x ≡ f.bay i) ⊎
      ((open_square f x ≡ true) × (get_or (parts f) x 0 ≡ get_or (parts f) d 0)) = λ o' a'.
      one_part i d ds o' s.after x a' in
      ⊎_elim
      (λ (o' : open_square f d ≡ true).
      let e : get_or (parts f) d 0 ≡ get_or (parts f) c 0 = sym (one_part_of c d o o' s.next_to) in
      ⊎_elim
      (λ q. let z = eqb-true x d q in inr (subst (λ y. open_square f y ≡ true) (sym z) o', ap (λ y. get_or (parts f) y 0) z ∙ e))
      (λ q. ⊎_elim inl (λ (b : (open_square f x ≡ true) × (get_or (parts f) x 0 ≡ get_or (parts f) d 0)). inr (b.0, b.1 ∙ e)) (rest o' q))
      (or_cases _ _ a))
      (λ (b : (d ≡ f.bay i) × (is_empty ds ≡ true)). ⊎_elim (λ q. inl (eqb-true x d q ∙ b.0)) (λ q. absurd (none ds b.1 q))
      (or_cases _ _ a))
      (next_is f i c d ds h)
    where
      none : (ds : List ℕ) → is_empty ds ≡ true → among x ds ≡ true → ⊥
      none [] e q = both_ways false refl q
      none (y ∷ ys) e q = both_ways false refl e

  -- so are those of a route whose first square is open
  pub first_part : (i c d : ℕ) (ds : List ℕ) → open_square f d ≡ true → route_ok f i c (d ∷ ds) ≡ true → (x : ℕ) → among x (d ∷ ds) ≡ true →
      (x ≡ f.bay i) ⊎ ((open_square f x ≡ true) × (get_or (parts f) x 0 ≡ get_or (parts f) d 0))
  unfolding among
  first_part i c d ds o h x a = ⊎_elim
      (λ q. let z = eqb-true x d q in inr (subst (λ y. open_square f y ≡ true) (sym z) o, ap (λ y. get_or (parts f) y 0) z))
      (λ q. one_part i d ds o (route_tells f i c d ds h).after x q) (or_cases _ _ a)

  -- where each shuttle is, and how much it has left at most
  pub record PlacedOwn (i : ℕ) (s : Shuttle) : Type 0 where
    pub here : Own f i s.at
    pub from : Own f i s.behind
    pub short : length s.route ≤ 256

  pub placed_own_home : (i : ℕ) → PlacedOwn i (at_home f i)
  unfolding at_home
  placed_own_home i = record { here = inl refl; from = inl refl; short = omega arith }

  placed_own_arrived : (i : ℕ) (s : Shuttle) → PlacedOwn i s → PlacedOwn i (arrived s)
  unfolding arrived
  placed_own_arrived i s r = record { here = r.here; from = r.here; short = r.short }

  placed_own_ordered : (i : ℕ) (s : Shuttle) (r : List ℕ) → length r ≤ 256 → PlacedOwn i s → PlacedOwn i (ordered s r)
  unfolding ordered
  placed_own_ordered i s r l q = record { here = q.here; from = q.here; short = l }

  placed_own_stepped : (i : ℕ) (s : Shuttle) → Placed f i s → is_empty s.route ≡ false → PlacedOwn i s → PlacedOwn i (stepped s)
  placed_own_stepped i s p e q =
      let h = steps s e in
      let len = ap length h.left in
      let o = q.short in
      record {
        here = step_own i s.at (stepped s).at (stepped s).route (subst (λ r. route_ok f i s.at r ≡ true) h.left p.on_route)
            q.here;
        from = subst (Own f i) (sym h.from) q.here;
        short = omega arith;
      }

  pub placed_own : sound f ≡ true → (es : List Event) (i : ℕ) → i < f.shuttles → PlacedOwn i (after f es i)
  unfolding after happens does who becomes put with_agent
  placed_own ok [] i l = placed_own_home i
  placed_own ok (order j r ∷ es) i l =
      let g = after f es in
      let before : (i : ℕ) → i < f.shuttles → PlacedOwn i (g i) = placed_own ok es in
      cond_both (takes f g j r) (put g j (ordered (g j) r)) g (λ h. PlacedOwn i (h i))
      (λ e. let t = takes_tells f g j r e in put_each (λ a s. a < f.shuttles → PlacedOwn a s) g j (ordered (g j) r)
      (λ m. placed_own_ordered j (g j) r t.short (before j m)) (λ a _. before a) i l) (λ _. before i l)
  placed_own ok (step j ∷ es) i l =
      let g = after f es in
      let before : (i : ℕ) → i < f.shuttles → PlacedOwn i (g i) = placed_own ok es in
      cond_both (grants f g j) (put g j (stepped (g j))) g (λ h. PlacedOwn i (h i))
      (λ e. let t = grants_tells f g j e in put_each (λ a s. a < f.shuttles → PlacedOwn a s) g j (stepped (g j))
      (λ m. placed_own_stepped j (g j) ((good_after f ok es).each j m) t.something_left (before j m)) (λ a _. before a) i l)
      (λ _. before i l)
  placed_own ok (arrive j ∷ es) i l =
      let g = after f es in
      let before : (i : ℕ) → i < f.shuttles → PlacedOwn i (g i) = placed_own ok es in
      cond_both (arrives f g j) (put g j (arrived (g j))) g (λ h. PlacedOwn i (h i))
      (λ e. put_each (λ a s. a < f.shuttles → PlacedOwn a s) g j (arrived (g j))
      (λ m. placed_own_arrived j (g j) (before j m)) (λ a _. before a) i l) (λ _. before i l)

  -- what it holds is its own
  pub held_own : (i : ℕ) (s : Shuttle) → PlacedOwn i s → (c : ℕ) → holds s c ≡ true → Own f i c
  unfolding holds
  held_own i s r c h = ⊎_elim (λ e. subst (Own f i) (eqb-true _ _ e) r.here)
      (λ e. subst (Own f i) (eqb-true _ _ (and_parts _ _ e).1) r.from) (or_cases _ _ h)

-- one that stands holds its square alone
pub stands_holds : (s : Shuttle) (c : ℕ) → s.moving ≡ false → holds s c ≡ true → s.at ≡ c
unfolding holds
stands_holds s c m h = grind (arith, nat_tests)

-- nobody else holds a square of what i has left
abbrev pub Clear : Field → Fleet → ℕ → Type 0
Clear f g i = (j : ℕ) → j < f.shuttles → (i ≡ j → ⊥) → (c : ℕ) → among c (g i).route ≡ true → holds (g j) c ≡ false

-- then its step is granted
pub clear_granted : (f : Field) (g : Fleet) → Good f g → (i : ℕ) → i < f.shuttles → (g i).moving ≡ false → is_empty (g i).route ≡ false →
    Clear f g i → grants f g i ≡ true
unfolding is_in among
clear_granted f g p i l m e q =
    let n = f.shuttles in
    let h = steps (g i) e in
    let free : (cs : List ℕ) → ((c : ℕ) → is_in c cs ≡ true → among c (g i).route ≡ true) → FreeFor shuttles n g i cs = λ cs sub j b ne.
    false_from_ne_true _ (λ v. let (c, x, y) = meets_tells (shuttles.held (g j)) cs v in
    both_ways _ (q j b ne c (sub c y)) (sym (holds_is (g j) c) ∙ x)) in
    grants_from f g i (record {
      there = l;
      stands = m;
      something_left = e;
      granted = may_free shuttles n g i (next_square (g i).route ∷ []) (stepped (g i))
          (λ j b c z. or_left_in c (g j) z) p.all_go l
          (free (next_square (g i).route ∷ []) (λ c z. subst (λ r. among c r ≡ true) (sym h.left)
          (let t = h.to in grind (arith, nat_tests))))
          (free (stepped (g i)).route (λ c z. subst (λ r. among c r ≡ true) (sym h.left)
          (or_right _ _ (sym (among_is c (stepped (g i)).route) ∙ z))))
          (λ k b. absurd (omega arith));
    })
  where
    or_left_in : (c : ℕ) (s : Shuttle) → is_in c (s.at ∷ []) ≡ true → is_in c (shuttles.held s) ≡ true
    or_left_in c s z = let t : eqb c s.at ≡ true = grind (arith, nat_tests) in or_left _ _ t

-- no two that can go block each other
pub no_pair : {n : ℕ} {w : ℕ → ℕ → Bool} {k : ℕ → Bool} {i : ℕ} → CanGo n w k i → (j : ℕ) → j < n → (i ≡ j → ⊥) → w i j ≡ true →
    w j i ≡ true → ⊥
no_pair (goes i l c b) j m ne e e' = no_pair (b j m ne e) i l (λ q. ne (sym q)) e' e
