-- Memory that is accepted: what it tells of each shuttle, and that it stays accepted when a shuttle that fits is written.
use Rattle.std.proofs.Common.{◌≡◌, ℕ, ◌+◌, ◌*◌, ◌<◌, ◌≤◌, Bool, true, false, eqb, ltb, List, length, get_or, sym, ap, ◌∙◌, ⊎_elim, add-zero, arith, lit≤}
use Rattle.std.proofs.lemmas.List.{length-take, get_or_past}
use Rattle.std.proofs.lemmas.Bool.{and_parts, and_from, cases_eq, cases_lt, eq-eqb, eqb-true, lt-ltb, leb-true, le-leb}
use Rattle.std.proofs.lemmas.Bool.Decides.{nat_tests}
use Rattle.rules.specs.Tests.{every}
use Rattle.rules.specs.Shuttle.{Shuttle, put}
use Rattle.rules.specs.Memory.{FieldNumbers, shuttle_in, shuttle_ok, memory_ok, mark, numbers_of, stored}
use Rattle.rules.proofs.Tests.{every_to_tells, every_to_from}
use Rattle.rules.proofs.Stored.{same_ok, stored_at, stored_length, stored_route, stored_same, stored_put}

-- the parts of accepted memory
pub record AcceptedMemory (lent : FieldNumbers) (m : List ℕ) : Type 0 where
  pub long : length m ≡ 260 * length lent.bays
  pub each : (i : ℕ) → i < length lent.bays → shuttle_ok (lent.across * lent.down) m i ≡ true

pub accepted_memory : (lent : FieldNumbers) (m : List ℕ) → memory_ok lent m ≡ true → AcceptedMemory lent m
unfolding memory_ok
accepted_memory lent m h =
    let p = and_parts (eqb (length m) (260 * length lent.bays)) _ h in
    record { long = eqb-true _ _ p.0; each = every_to_tells (shuttle_ok (lent.across * lent.down) m) (length lent.bays) p.1 }

-- a shuttle whose numbers are accepted where there are so many squares
pub record Fits (squares : ℕ) (s : Shuttle) : Type 0 where
  pub short : length s.route ≤ 256
  pub on : s.at < squares
  pub from : s.behind < squares
  pub over : every (λ c. ltb c squares) s.route ≡ true

mark_small : (b : Bool) → mark b ≤ 1
unfolding mark
mark_small true = lit≤ tt
mark_small false = lit≤ tt

module _ (squares : ℕ) (m : List ℕ) (j : ℕ) (ok : shuttle_ok squares m j ≡ true) where
  pub ok_room : get_or m (260 * j + 3) 0 ≤ 256
  unfolding shuttle_ok
  ok_room = leb-true _ _ (and_parts _ _ (and_parts _ _ ok).1).0

  pub ok_fits : Fits squares (shuttle_in m j)
  unfolding shuttle_ok shuttle_in
  ok_fits =
      record {
        short = simp length-take (omega (arith, ok_room));
        on = grind (arith, nat_tests);
        from = grind (arith, nat_tests);
        over = grind (arith, nat_tests);
      }

module _ (squares : ℕ) (m : List ℕ) (i : ℕ) (s : Shuttle) (room : 260 * i + 260 ≤ length m) (fits : Fits squares s) where
  own_ok : shuttle_ok squares (stored m i s) i ≡ true
  unfolding shuttle_ok numbers_of
  own_ok =
      let at : get_or (stored m i s) (260 * i) 0 ≡ s.at =
      ap (λ q. get_or (stored m i s) q 0) (sym (add-zero (260 * i))) ∙ stored_at m i s room fits.short 0 (omega arith) in
      let moving : get_or (stored m i s) (260 * i + 1) 0 ≡ mark s.moving = stored_at m i s room fits.short 1 (omega arith) in
      let behind : get_or (stored m i s) (260 * i + 2) 0 ≡ s.behind = stored_at m i s room fits.short 2 (omega arith) in
      let left : get_or (stored m i s) (260 * i + 3) 0 ≡ length s.route = stored_at m i s room fits.short 3 (omega arith) in
      rw (at, moving, behind, left, stored_route m i s room fits.short)
      (and_from _ _ (le-leb _ _ (mark_small s.moving))
      (and_from _ _ (le-leb _ _ fits.short)
      (and_from _ _ (lt-ltb _ _ fits.on) (and_from _ _ (lt-ltb _ _ fits.from) fits.over))))

  -- a shuttle is accepted after the write if it is the one that was written, or was accepted before
  pub stored_ok : (j : ℕ) → ((j ≡ i → ⊥) → shuttle_ok squares m j ≡ true) → shuttle_ok squares (stored m i s) j ≡ true
  stored_ok j was =
      ⊎_elim (λ (e : j ≡ i). rw e own_ok)
      (λ ne.
      sym (same_ok m (stored m i s) j (sym (stored_length m i s room fits.short)) (stored_same m i s room fits.short j ne)
      (ok_room squares m j (was ne)) squares)
      ∙ was ne)
      (cases_eq j i)

-- no shuttle of accepted memory has more than 256 squares left, nor has one past its end
pub accepted_room : (lent : FieldNumbers) (m : List ℕ) → memory_ok lent m ≡ true → (j : ℕ) → get_or m (260 * j + 3) 0 ≤ 256
accepted_room lent m ok j =
    let was = accepted_memory lent m ok in
    let long = was.long in
    ⊎_elim (λ l. ok_room _ m j (was.each j l))
    (λ l. rw (get_or_past m (260 * j + 3) 0 (omega arith)) (lit≤ tt)) (cases_lt j (length lent.bays))

-- writing one shuttle
module _ (lent : FieldNumbers) (m : List ℕ) (ok : memory_ok lent m ≡ true) (i : ℕ) (s : Shuttle) (there : i < length lent.bays) where
  room_there : 260 * i + 260 ≤ length m
  room_there = let long = (accepted_memory lent m ok).long in omega arith

  -- memory stays accepted
  pub stored_accepted : s.at < lent.across * lent.down → s.behind < lent.across * lent.down
      → every (λ c. ltb c (lent.across * lent.down)) s.route ≡ true → length s.route ≤ 256 → memory_ok lent (stored m i s) ≡ true
  unfolding memory_ok
  stored_accepted on from over short =
      let was = accepted_memory lent m ok in
      let fits : Fits (lent.across * lent.down) s = record { short = short; on = on; from = from; over = over } in
      and_from _ _ (eq-eqb _ _ (stored_length m i s room_there short ∙ was.long))
      (every_to_from _ (length lent.bays) (λ j b. stored_ok _ m i s room_there fits j (λ _. was.each j b)))

  -- and each shuttle is then read as in the fleet with that one replaced
  pub stored_reads : length s.route ≤ 256 → (j : ℕ) → shuttle_in (stored m i s) j ≡ put (shuttle_in m) i s j
  stored_reads short j = stored_put m i s room_there short j (λ _. accepted_room lent m ok j)
