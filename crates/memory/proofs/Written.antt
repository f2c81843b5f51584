-- What is written at home, at a step and at an arrival is the shuttle after it.
use Rattle.std.proofs.Common.{◌≡◌, ℕ, suc, ◌+◌, ◌-◌, ◌*◌, ◌<◌, ◌≤◌, Bool, true, false, List, ◌∷◌, ◌++◌, length, get_or, take, drop, set, sym, ap, subst, ◌∙◌, append_assoc, add-zero, arith}
use Rattle.std.proofs.lemmas.List.{length-take, length-drop, take_all, take-append-drop, drop-append-le, drop-drop, drop_more, drop-set-lt}
use Rattle.std.specs.List.{copy_within}
use Rattle.rules.specs.Field.{Field}
use Rattle.rules.specs.Shuttle.{Shuttle, at_home, stepped, stepped_to, arrived}
use Rattle.rules.specs.Memory.{shuttle_in, stored}
use Rattle.memory.specs.Written.{headed, headed_from}
use Rattle.memory.proofs.Writing.{headed_long, stored_is}

-- the numbers of a shuttle at home need no place for what is left
pub home_is : (f : Field) (m : List ℕ) (i : ℕ) → 260 * i + 4 ≤ length m
    → headed m i (f.bay i) false (f.bay i) 0 ≡ stored m i (at_home f i)
unfolding at_home
home_is f m i l =
    let h = headed m i (f.bay i) false (f.bay i) 0 in
    sym (stored_is m i (at_home f i) (omega arith) ∙ ap (λ k. take (260 * i + 4) h ++ drop k h) (add-zero (260 * i + 4)) ∙ take-append-drop (260 * i + 4) h)

-- the four numbers stand before what is left
after_head : (m : List ℕ) (i at : ℕ) (moving : Bool) (behind left : ℕ)
    → drop (260 * i + 4) (headed m i at moving behind left) ≡ drop (260 * i + 4) m
after_head m i at moving behind left =
    let p = 260 * i in
    drop-set-lt (p + 4) (set (set (set m p at) (p + 1) _) (p + 2) behind) (p + 3) left (omega arith)
    ∙ drop-set-lt (p + 4) (set (set m p at) (p + 1) _) (p + 2) behind (omega arith)
    ∙ drop-set-lt (p + 4) (set m p at) (p + 1) _ (omega arith) ∙ drop-set-lt (p + 4) m p at (omega arith)

-- a part written over by itself
same_part : (h : List ℕ) (a n : ℕ) → take a h ++ (take n (drop a h) ++ drop (a + n) h) ≡ h
same_part h a n =
    ap (λ t. take a h ++ (take n (drop a h) ++ t)) (sym (drop-drop n a h)) ∙ ap (λ t. take a h ++ t) (take-append-drop n (drop a h)) ∙ take-append-drop a h

-- the first of what is left, and the rest
pub left_cons : (m : List ℕ) (a n : ℕ) → 1 ≤ n → a < length m → take n (drop a m) ≡ get_or m a 0 ∷ take (n - 1) (drop (a + 1) m)
left_cons m a n some l =
    let e : n ≡ suc (n - 1) = omega arith in ap (λ k. take k (drop a m)) e ∙ ap (take (suc (n - 1))) (drop_more m a 0 l)

-- each element moved one to the front: what follows the first, and the last again
pub moved_up_is : (xs : List ℕ) → 1 ≤ length xs → copy_within xs 1 (length xs) 0 ≡ drop 1 xs ++ drop (length xs - 1) xs
moved_up_is xs l =
    let e = take_all (length xs - 1) (drop 1 xs) (let q = length-drop 1 xs in omega arith) in
    let z : 0 + (length xs - 1) ≡ length xs - 1 = omega arith in rw (e, z)

-- a part so moved, put back: what follows its first element, and from its last place on what stood there
pub moved_up : (h : List ℕ) (a n : ℕ) → 1 ≤ n → a + n ≤ length h
    → take a h ++ (copy_within (take n (drop a h)) 1 (length (take n (drop a h))) 0 ++ drop (a + n) h)
    ≡ take a h ++ (drop 1 (take n (drop a h)) ++ drop (a + (n - 1)) h)
moved_up h a n some l =
    let d = drop a h in
    let r = take n d in
    let long : length r ≡ n = length-take n d ∙ (let q = length-drop a h in omega arith) in
    let rest : drop (length r - 1) r ++ drop (a + n) h ≡ drop (a + (n - 1)) h =
    ap (λ t. drop (length r - 1) r ++ t) (sym (drop-drop n a h)) ∙ sym (drop-append-le (length r - 1) r (drop n d) (omega arith))
    ∙ ap (drop (length r - 1)) (take-append-drop n d) ∙ drop-drop (length r - 1) a h ∙ ap (λ t. drop (a + (t - 1)) h) long in
    ap (λ t. take a h ++ (t ++ drop (a + n) h)) (moved_up_is r (omega arith))
    ∙ ap (λ t. take a h ++ t) (append_assoc (drop 1 r) (drop (length r - 1) r) (drop (a + n) h) ∙ ap (λ t. drop 1 r ++ t) rest)

module _ (m : List ℕ) (i : ℕ) (there : 260 * i + 260 ≤ length m) (room : get_or m (260 * i + 3) 0 ≤ 256) where
  abbrev left : ℕ
  left = get_or m (260 * i + 3) 0

  long_left : length (take left (drop (260 * i + 4) m)) ≡ left
  long_left = length-take left (drop (260 * i + 4) m) ∙ (let q = length-drop (260 * i + 4) m in omega arith)

  pub arrival_is : headed m i (get_or m (260 * i) 0) false (get_or m (260 * i) 0) left ≡ stored m i (arrived (shuttle_in m i))
  unfolding arrived shuttle_in
  arrival_is =
      let at = get_or m (260 * i) 0 in
      let r = take left (drop (260 * i + 4) m) in
      let h = headed m i at false at left in
      let long = long_left in
      sym (stored_is m i (arrived (shuttle_in m i)) (omega arith)
      ∙ ap (λ k. let g = headed m i at false at k in take (260 * i + 4) g ++ (r ++ drop (260 * i + 4 + k) g)) long
      ∙ ap (λ t. take (260 * i + 4) h ++ (take left t ++ drop (260 * i + 4 + left) h)) (sym (after_head m i at false at left))
      ∙ same_part h (260 * i + 4) left)

  pub step_is : 1 ≤ left → (h part : List ℕ) → h ≡ headed m i (get_or m (260 * i + 4) 0) true (get_or m (260 * i) 0) (left - 1)
      → part ≡ copy_within (take left (drop (260 * i + 4) h)) 1 (length (take left (drop (260 * i + 4) h))) 0
      → take (260 * i + 4) h ++ (part ++ drop (260 * i + 4 + left) h) ≡ stored m i (stepped (shuttle_in m i))
  unfolding stepped stepped_to shuttle_in
  step_is some h part e is =
      let a = 260 * i + 4 in
      let next = get_or m a 0 in
      let at = get_or m (260 * i) 0 in
      let cs = take (left - 1) (drop (a + 1) m) in
      let s : Shuttle = record { at = next; moving = true; behind = at; route = cs } in
      let on : stepped (shuttle_in m i) ≡ s = ap (stepped_to (shuttle_in m i)) (left_cons m a left some (omega arith)) in
      let rest : length cs ≡ left - 1 = length-take (left - 1) (drop (a + 1) m) ∙ (let q = length-drop (a + 1) m in omega arith) in
      let long : length h ≡ length m = ap length e ∙ headed_long m (260 * i) next true at (left - 1) in
      let same : drop a h ≡ drop a m = ap (drop a) e ∙ after_head m i next true at (left - 1) in
      let tail : drop 1 (take left (drop a h)) ≡ cs = ap (λ t. drop 1 (take left t)) same ∙ ap (drop 1) (left_cons m a left some (omega arith)) in
      let as_head : h ≡ headed m i next true at (length cs) = e ∙ ap (headed m i next true at) (sym rest) in
      ap (λ t. take a h ++ (t ++ drop (a + left) h)) is ∙ moved_up h a left some (omega arith) ∙ ap (λ t. take a h ++ (t ++ drop (a + (left - 1)) h)) tail
      ∙ ap (λ k. take a h ++ (cs ++ drop (a + k) h)) (sym rest)
      ∙ ap (λ t. take a t ++ (cs ++ drop (a + length cs) t)) as_head
      ∙ sym (stored_is m i s (omega arith)) ∙ ap (stored m i) (sym on)

-- a step written where the numbers of shuttle i begin is the shuttle after it
abbrev StepAt : (m : List ℕ) (i place : ℕ) → Type 0
StepAt m i place =
    place + 260 ≤ length m → get_or m (place + 3) 0 ≤ 256 → 1 ≤ get_or m (place + 3) 0 → (h part : List ℕ)
    → h ≡ headed_from m place (get_or m (place + 4) 0) true (get_or m place 0) (get_or m (place + 3) 0 - 1)
    → part ≡ copy_within (take (get_or m (place + 3) 0) (drop (place + 4) h)) 1 (length (take (get_or m (place + 3) 0) (drop (place + 4) h))) 0
    → take (place + 4) h ++ (part ++ drop (place + 4 + get_or m (place + 3) 0) h) ≡ stored m i (stepped (shuttle_in m i))

pub step_at_is : (m : List ℕ) (i place : ℕ) → place ≡ 260 * i → StepAt m i place
step_at_is m i place e = subst (StepAt m i) (sym e) (λ there room. step_is m i there room)
