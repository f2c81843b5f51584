-- What the tests of an order tell.
use Rattle.std.proofs.Common.{◌≡◌, ℕ, ◌*◌, ◌<◌, ◌≤◌, true, not, ◌&&◌, eqb, ltb, List, length, ap, ◌∙◌, arith}
use Rattle.std.proofs.lemmas.Bool.{lt-ltb, le-leb}
use Rattle.std.proofs.lemmas.Bool.Decides.{nat_tests}
use Rattle.rules.specs.Tests.{every}
use Rattle.rules.specs.Route.{route_ok}
use Rattle.rules.specs.Field.{Field}
use Rattle.rules.specs.Shuttle.{Fleet}
use Rattle.rules.specs.Event.{takes}
use Rattle.rules.specs.Memory.{shuttle_in, field_in}
use Rattle.rules.proofs.Tests.{empty_is}
use Rattle.rules.proofs.Becomes.{route_squares}
use Rattle.field.specs.Model.{field_of}
use Rattle.memory.specs.declared.hall.Hall.{Hall}
use Rattle.memory.specs.Shuttles.{kept_at}
use Rattle.memory.proofs.Halls.{left_long}

module _ (h : Hall) (i : ℕ) (r : List ℕ) (l : i < length h.field.bays.now) (short : length r ≤ 256) where
  -- an order is taken exactly if the shuttle is idle and the route is one
  pub takes_is : takes (field_of h.field) (shuttle_in h.memory.now) i r
      ≡ (not (kept_at h.memory.now i).moving
      && (eqb (kept_at h.memory.now i).left 0 && route_ok (field_of h.field) i (kept_at h.memory.now i).at r))
  unfolding takes shuttle_in field_in
  takes_is =
      let there = lt-ltb i (length h.field.bays.now) l in
      let few = le-leb (length r) 256 short in
      let none = empty_is (shuttle_in h.memory.now i).route ∙ ap (λ n. eqb n 0) (left_long h i l) in
      grind (arith, nat_tests)

-- the squares of a route that is taken are squares of the field
pub takes_over : (f : Field) (g : Fleet) (i : ℕ) (r : List ℕ) → takes f g i r ≡ true → every (λ c. ltb c (f.across * f.down)) r ≡ true
unfolding takes
takes_over f g i r h = route_squares f i (g i).at r (grind (arith, nat_tests))
