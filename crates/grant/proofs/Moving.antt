-- A step in memory: the next square comes off the front of what is left.
use Rattle.std.proofs.Common.{◌≡◌, ℕ, ◌+◌, ◌-◌, ◌<◌, ◌≤◌, true, false, not, ◌&&◌, ltb, List, ◌∷◌, get_or, take, drop, set, ap, ◌∙◌, subst, arith}
use Rattle.std.proofs.lemmas.Bool.{and_parts, and_from, both_ways, not-true, lt-ltb, le-leb}
use Rattle.std.proofs.lemmas.Bool.Decides.{nat_tests}
use Rattle.rules.specs.Tests.{every, is_empty}
use Rattle.rules.specs.Field.{Field}
use Rattle.rules.specs.Shuttle.{Fleet, held_by_other, put, next_square, stepped, stepped_to}
use Rattle.rules.specs.Safe.{safe}
use Rattle.rules.specs.Event.{grants}
use Rattle.memory.specs.declared.shuttle.Shuttle.{Shuttle as Kept}
use Rattle.memory.proofs.Written.{left_cons}
use Rattle.safety.specs.declared.fleet.Fleet.{Fleet as Held}
use Rattle.memory.specs.Shuttles.{nobody, shuttle_of}
use Rattle.safety.specs.Fleets.{fleet_of, fits_in}
use Rattle.safety.proofs.Fitting.{Fitting, fitting, array_long, count_most, fleet_put}
use Rattle.grant.specs.Moved.{moved}

module _ (m : List ℕ) (s : Kept) (k : Fitting m s) (some : 1 ≤ s.left) where
  pub left_more : take s.left (drop s.from m) ≡ get_or m s.from 0 ∷ take (s.left - 1) (drop (s.from + 1) m)
  left_more = let within = k.within in left_cons m s.from s.left some (omega arith)

  pub moved_fits : fits_in m (moved m s) ≡ true
  unfolding fits_in every
  moved_fits =
      let within = k.within in
      let all = and_parts (ltb (get_or m s.from 0) 4096) (every (λ c. ltb c 4096) (take (s.left - 1) (drop (s.from + 1) m))) (subst (λ r. every (λ c. ltb c 4096) r ≡ true) left_more k.squares) in
      and_from _ _ all.0 (and_from _ _ (le-leb _ _ (omega arith)) all.1)

  pub moved_is : shuttle_of m (moved m s) ≡ stepped (shuttle_of m s)
  unfolding stepped stepped_to
  moved_is = rw left_more

  pub some_left : is_empty (shuttle_of m s).route ≡ false
  unfolding is_empty
  some_left = rw left_more

  pub next_is : next_square (shuttle_of m s).route ≡ get_or m s.from 0
  unfolding next_square
  next_is = rw left_more

-- the tests of a step, one after the other
pub grants_is : (f : Field) (g : Fleet) (i c : ℕ) → i < f.shuttles → (g i).moving ≡ false → is_empty (g i).route ≡ false → next_square (g i).route ≡ c
    → grants f g i ≡ (not (held_by_other g i c f.shuttles) && safe f.shuttles (put g i (stepped (g i))))
unfolding grants
grants_is f g i c l stands left next = let there = lt-ltb i f.shuttles l in rw (there, stands, left, next)

-- one that does not wait is granted nothing
pub not_waiting : (f : Field) (g : Fleet) (i : ℕ) → (not (g i).moving && not (is_empty (g i).route)) ≡ false → grants f g i ≡ false
unfolding grants
not_waiting f g i h = grind (arith, nat_tests)

-- and one whose step is granted has something left
pub granted_some : (f : Field) (g : Fleet) (i : ℕ) → grants f g i ≡ true → is_empty (g i).route ≡ false
unfolding grants
granted_some f g i h = grind (arith, nat_tests)

-- one that waits stands with a square left
pub waiting : (m : List ℕ) (s : Kept) → (not s.moving && not (is_empty (shuttle_of m s).route)) ≡ true → (s.moving ≡ false) × (1 ≤ s.left)
unfolding is_empty
waiting m s h =
    let both = and_parts (not s.moving) _ h in
    let some : s.left ≡ 0 → ⊥ = λ e. both_ways _ (ap (λ k. not (is_empty (take k (drop s.from m)))) e) both.1 in
    (not-true _ both.0, omega arith)

-- with none left its route is empty
pub none_left : (m : List ℕ) (s : Kept) → s.left ≡ 0 → is_empty (shuttle_of m s).route ≡ true
unfolding is_empty
none_left m s e = rw e

-- the tests of a step, over a fleet of the code
pub grants_of : (f : Held) (i : ℕ) → i < f.count → (h : Field) → h.shuttles ≡ f.count
    → (get_or f.shuttles i nobody).moving ≡ false → 1 ≤ (get_or f.shuttles i nobody).left
    → grants h (fleet_of f.shuttles f.memory.now) i
    ≡ (not (held_by_other (fleet_of f.shuttles f.memory.now) i (get_or f.memory.now (get_or f.shuttles i nobody).from 0) f.count)
    && safe f.count (fleet_of (set f.shuttles i (moved f.memory.now (get_or f.shuttles i nobody))) f.memory.now))
grants_of f i l h e stands some =
    let m = f.memory.now in
    let s = get_or f.shuttles i nobody in
    let k = fitting f i l in
    let long = array_long f in
    let few = count_most f in
    let g = fleet_of f.shuttles m in
    let put_is : fleet_of (set f.shuttles i (moved m s)) m ≡ put g i (stepped (g i)) =
    fleet_put f.shuttles m i (moved m s) (omega arith) ∙ ap (put g i) (moved_is m s k some) in
    grants_is h g i (get_or m s.from 0) (omega arith) stands (some_left m s k some) (next_is m s k some)
    ∙ (rw (e, put_is))
