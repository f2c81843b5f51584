-- What is known of a fleet of the code, since its shuttles fit into memory.
use Rattle.std.proofs.Common.{◌≡◌, ℕ, ◌+◌, ◌*◌, ◌<◌, ◌≤◌, true, eqb, ltb, leb, List, ◌++◌, length, get_or, take, drop, set, replicate, sym, ap, ◌∙◌, ⊎_elim, arith}
use mathlib.Core.Path.{fun_ext}
use Rattle.std.proofs.lemmas.List.{length-set, get_or-set_same, get_or-set_other, get_or_past, get_or_append_left, get_or-append_right, get_or-take, get_or-drop, get_or-replicate, length-append, length-drop, length-replicate}
use Rattle.std.proofs.lemmas.Bool.{and_parts, and_from, leb-true, ltb-true, lt-ltb, eqb-true, eq-eqb, ne_eqb, le-leb, cases_eq, cases_lt, cond-true, cond-false}
use Rattle.rules.specs.Tests.{every, every_to}
use Rattle.rules.specs.Shuttle.{put}
use Rattle.rules.specs.Memory.{memory_ok, shuttle_in}
use Rattle.rules.proofs.Tests.{every_to_tells, every_to_from, every_imp}
use Rattle.rules.proofs.Memory.{ok_fits, accepted_memory, accepted_room}
use Rattle.field.specs.Model.{numbers_in}
use Rattle.field.specs.declared.field.Field.{Field as Lent}
use Rattle.field.proofs.Facts.{facts}
use Rattle.memory.specs.declared.shuttle.Shuttle.{Shuttle as Kept}
use Rattle.memory.specs.Shuttles.{nobody, shuttle_of, kept_at}
use Rattle.safety.specs.declared.fleet.Fleet.{Fleet as Held}
use Rattle.safety.specs.Fleets.{fleet_of, fits_in, all_fit}

pub record Fitting (m : List ℕ) (s : Kept) : Type 0 where
  pub here : s.at < 4096
  pub within : s.from + s.left ≤ length m
  pub squares : every (λ c. ltb c 4096) (take s.left (drop s.from m)) ≡ true

pub fits_tells : (m : List ℕ) (s : Kept) → fits_in m s ≡ true → Fitting m s
unfolding fits_in
fits_tells m s h =
    let p = and_parts (ltb s.at 4096) _ h in
    let q = and_parts (leb (s.from + s.left) (length m)) _ p.1 in
    record { here = ltb-true _ _ p.0; within = leb-true _ _ q.0; squares = q.1 }

-- the parts of what is known of the whole
record Parts (f : Held) : Type 0 where
  sixteen : length f.shuttles ≡ 16
  most : f.count ≤ 16
  near : length f.memory.now ≤ 4160
  each : every_to (λ i. fits_in f.memory.now (get_or f.shuttles i nobody)) f.count ≡ true

parts : (f : Held) → Parts f
unfolding all_fit
parts f =
    let p = and_parts (eqb (length f.shuttles) 16) _ f.fits in
    let q = and_parts (leb f.count 16) _ p.1 in
    let r = and_parts (leb (length f.memory.now) 4160) _ q.1 in
    record { sixteen = eqb-true _ _ p.0; most = leb-true _ _ q.0; near = leb-true _ _ r.0; each = r.1 }

pub array_long : (f : Held) → length f.shuttles ≡ 16
array_long f = (parts f).sixteen

pub count_most : (f : Held) → f.count ≤ 16
count_most f = (parts f).most

pub memory_near : (f : Held) → length f.memory.now ≤ 4160
memory_near f = (parts f).near

pub each_fits : (f : Held) (i : ℕ) → i < f.count → fits_in f.memory.now (get_or f.shuttles i nobody) ≡ true
each_fits f = every_to_tells (λ i. fits_in f.memory.now (get_or f.shuttles i nobody)) f.count (parts f).each

pub fitting : (f : Held) (i : ℕ) → i < f.count → Fitting f.memory.now (get_or f.shuttles i nobody)
fitting f i l = fits_tells f.memory.now (get_or f.shuttles i nobody) (each_fits f i l)

-- one of the shuttles that are there
pub record Item (f : Held) (ss : List Kept) (i : ℕ) : Type 0 where
  pub there : i < f.count
  pub is : get_or ss i nobody ≡ get_or f.shuttles i nobody
  pub fits : Fitting f.memory.now (get_or ss i nobody)

pub item : (f : Held) (ss : List Kept) → length ss ≡ f.count → ss ≡ take f.count f.shuttles → (i : ℕ) → i < length ss → Item f ss i
item f ss long first i l =
    let there : i < f.count = omega arith in
    let is = ap (λ xs. get_or xs i nobody) first ∙ get_or-take f.count f.shuttles i nobody there in
    record { there = there; is = is; fits = rw is (fitting f i there) }

-- the fleet with one shuttle in place of another that fits
pub fits_put : (f : Held) (i : ℕ) (s : Kept) → i < f.count → fits_in f.memory.now s ≡ true → all_fit (set f.shuttles i s) f.count f.memory.now ≡ true
unfolding all_fit
fits_put f i s l h =
    let m = f.memory.now in
    let long = array_long f in
    let few = count_most f in
    let there : i < length f.shuttles = omega arith in
    and_from _ _ (eq-eqb _ _ (length-set f.shuttles i s ∙ long)) (and_from _ _ (le-leb _ _ few) (and_from _ _ (le-leb _ _ (memory_near f))
    (every_to_from (λ j. fits_in m (get_or (set f.shuttles i s) j nobody)) f.count (λ j m'. ⊎_elim
    (λ e. ap (λ k. fits_in m (get_or (set f.shuttles i s) k nobody)) e ∙ ap (fits_in m) (get_or-set_same f.shuttles i s nobody there) ∙ h)
    (λ ne. ap (fits_in m) (get_or-set_other f.shuttles i j s nobody ne) ∙ each_fits f j m') (cases_eq j i)))))

-- and what it stands for
pub fleet_put : (ss : List Kept) (m : List ℕ) (i : ℕ) (s : Kept) → i < length ss → fleet_of (set ss i s) m ≡ put (fleet_of ss m) i (shuttle_of m s)
unfolding put
fleet_put ss m i s l =
    fun_ext (λ j. ⊎_elim
    (λ e. ap (shuttle_of m) (ap (λ k. get_or (set ss i s) k nobody) e ∙ get_or-set_same ss i s nobody l)
    ∙ sym (cond-true (eqb j i) (shuttle_of m s) (fleet_of ss m j) (eq-eqb j i e)))
    (λ ne. ap (shuttle_of m) (get_or-set_other ss i j s nobody ne) ∙ sym (cond-false (eqb j i) (shuttle_of m s) (fleet_of ss m j) (ne_eqb j i ne)))
    (cases_eq j i))

-- a shuttle of accepted memory fits
pub kept_fits : (f : Lent) (m : List ℕ) → memory_ok (numbers_in f) m ≡ true → (i : ℕ) → i < length f.bays.now → fits_in m (kept_at m i) ≡ true
unfolding fits_in shuttle_in
kept_fits f m ok i l =
    let few = (facts f).squares_most in
    let all = accepted_memory _ _ ok in
    let long = all.long in
    let own = ok_fits _ _ i (all.each i l) in
    let r = accepted_room _ _ ok i in
    let on : get_or m (260 * i) 0 < 4096 = omega (arith, own.on) in
    let within : 260 * i + 4 + get_or m (260 * i + 3) 0 ≤ length m = omega arith in
    and_from _ _ (lt-ltb _ _ on)
    (and_from _ _ (le-leb _ _ within)
    (every_imp (λ c. ltb c (f.across * f.down)) (λ c. ltb c 4096) (shuttle_in m i).route
    (λ c b. let q = ltb-true c (f.across * f.down) b in lt-ltb c 4096 (omega arith)) own.over))

-- past the end of memory nobody is read
pub nobody_is : (m : List ℕ) (i : ℕ) → length m ≤ 260 * i → shuttle_of m nobody ≡ shuttle_in m i
unfolding shuttle_in
nobody_is m i l =
    let a = get_or_past m (260 * i) 0 l in
    let b = get_or_past m (260 * i + 1) 0 (omega arith) in
    let c = get_or_past m (260 * i + 2) 0 (omega arith) in
    let d = get_or_past m (260 * i + 3) 0 (omega arith) in rw (a, b, c, d)

-- the shuttles that are read of accepted memory, and nobody in the places past them
module _ (f : Lent) (m : List ℕ) (ok : memory_ok (numbers_in f) m ≡ true) (ss : List Kept) (long : length ss ≡ length f.bays.now)
    (is : (k : ℕ) → k < length f.bays.now → get_or ss k nobody ≡ kept_at m k) where
  abbrev sixteen : List Kept
  sixteen = ss ++ drop (length f.bays.now) (replicate 16 nobody)

  own : (i : ℕ) → i < length f.bays.now → get_or sixteen i nobody ≡ kept_at m i
  own i l = get_or_append_left ss _ nobody i (omega arith) ∙ is i l

  past : (i : ℕ) → length f.bays.now ≤ i → get_or sixteen i nobody ≡ nobody
  past i l =
      get_or-append_right ss _ (length f.bays.now) i nobody long l ∙ get_or-drop (length f.bays.now) (replicate 16 nobody) _ nobody
      ∙ ⊎_elim (λ b. get_or-replicate 16 _ nobody nobody b)
      (λ b. get_or_past (replicate 16 nobody) _ nobody (omega (arith, length-replicate 16 nobody))) (cases_lt _ 16)

  pub read_fits : all_fit sixteen (length f.bays.now) m ≡ true
  unfolding all_fit
  read_fits =
      let few = (facts f).few in
      let near = (accepted_memory _ _ ok).long in
      let whole : length sixteen ≡ 16 = simp (length-append, length-drop, length-replicate) (omega arith) in
      and_from _ _ (eq-eqb _ _ whole) (and_from _ _ (le-leb _ _ few) (and_from _ _ (le-leb _ _ (omega arith))
      (every_to_from _ _ (λ i l. ap (fits_in m) (own i l) ∙ kept_fits f m ok i l))))

  pub read_is : (i : ℕ) → fleet_of sixteen m i ≡ shuttle_in m i
  unfolding shuttle_in
  read_is i =
      let near = (accepted_memory _ _ ok).long in
      ⊎_elim (λ l. ap (shuttle_of m) (own i l))
      (λ l. ap (shuttle_of m) (past i l) ∙ nobody_is m i (omega arith)) (cases_lt i (length f.bays.now))
