-- What is known of a hall of the code, since its memory is accepted.
use Rattle.std.proofs.Common.{◌≡◌, ℕ, ◌+◌, ◌*◌, ◌<◌, ◌≤◌, true, false, length, get_or, refl, ◌∙◌, ⊎_elim, arith}
use Rattle.std.proofs.lemmas.List.{length-take, length-drop}
use Rattle.std.proofs.lemmas.Bool.{both_ways, cases_lt}
use Rattle.rules.specs.Tests.{is_empty}
use Rattle.rules.specs.Shuttle.{Shuttle, stepped}
use Rattle.rules.specs.Memory.{memory_ok, shuttle_in, stored}
use Rattle.rules.proofs.Tests.{empty_from}
use Rattle.rules.proofs.Memory.{Fits, ok_fits, accepted_memory, accepted_room, stored_accepted}
use Rattle.rules.proofs.Becomes.{stepped_fits}
use Rattle.field.specs.Model.{numbers_in}
use Rattle.field.proofs.Facts.{facts}
use Rattle.memory.specs.declared.hall.Hall.{Hall}

module _ (h : Hall) (i : ℕ) (l : i < length h.field.bays.now) where
  pub few : i < 16
  few = let most = (facts h.field).few in omega arith

  pub there : 260 * i + 260 ≤ length h.memory.now
  there = let long = (accepted_memory _ _ h.accepted).long in omega arith

  pub room : get_or h.memory.now (260 * i + 3) 0 ≤ 256
  room = accepted_room _ _ h.accepted i

  pub fits : Fits (h.field.across * h.field.down) (shuttle_in h.memory.now i)
  fits = ok_fits _ _ i ((accepted_memory _ _ h.accepted).each i l)

  -- on its way to its next square it fits too
  pub steps_fit : Fits (h.field.across * h.field.down) (stepped (shuttle_in h.memory.now i))
  unfolding stepped
  steps_fit = stepped_fits _ (shuttle_in h.memory.now i) _ refl fits

  -- as many squares are left as memory says
  pub left_long : length (shuttle_in h.memory.now i).route ≡ get_or h.memory.now (260 * i + 3) 0
  unfolding shuttle_in
  left_long = simp (length-take, length-drop) (omega (arith, there, room))

  pub some : is_empty (shuttle_in h.memory.now i).route ≡ false → 1 ≤ get_or h.memory.now (260 * i + 3) 0
  some left =
      ⊎_elim (λ some. some) (λ none. absurd (both_ways _ left (empty_from _ (left_long ∙ omega arith))))
      (cases_lt 0 (get_or h.memory.now (260 * i + 3) 0))

  -- memory stays accepted when a shuttle is written that fits
  pub written : (s : Shuttle) → Fits (h.field.across * h.field.down) s
      → memory_ok (numbers_in h.field) (stored h.memory.now i s) ≡ true
  written s f = stored_accepted _ _ h.accepted i s l f.on f.from f.over f.short
