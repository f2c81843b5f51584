-- How large a field of the code is at most, and that the ends of a leg and bays lie in a table.
use Rattle.std.proofs.Common.{◌≡◌, ℕ, ◌*◌, ◌<◌, ◌≤◌, true, ◌&&◌, ◌||◌, eqb, ltb, leb, length, get_or, arith}
use Rattle.std.proofs.lemmas.Bool.{and_parts, ltb-true}
use Rattle.std.proofs.lemmas.Bool.Decides.{nat_tests}
use Rattle.std.proofs.lemmas.Nat.{mul-le}
use Rattle.field.specs.declared.field.Field.{Field as Lent}
use Rattle.rules.specs.Field.{free_square}
use Rattle.rules.specs.Memory.{field_in}
use Rattle.rules.proofs.Tests.{every_tells}
use Rattle.rules.proofs.Fields.{sound_tells}
use Rattle.field.specs.Model.{field_of}
use Rattle.field.proofs.Facts.{facts, long}
use Rattle.ways.specs.Good.{enter}
use Rattle.ways.proofs.Ground.{ground_enter}
use Rattle.way.specs.declared.leg.Leg.{Leg}

pub wide : (f : Lent) → 1 ≤ f.across
wide f = (facts f).across_least

pub squares_most : (f : Lent) → f.across * f.down ≤ 4096
squares_most f = mul-le f.across f.down 64 64 (facts f).across_most (facts f).down_most

pub walls_most : (f : Lent) → length f.walls.now ≤ 4096
walls_most f = omega (arith, squares_most f, long f)

-- a square is free exactly if its mark is 0
pub mark_free : (f : Lent) (k : ℕ) → k < length f.walls.now → free_square (field_of f) k ≡ eqb (get_or f.walls.now k 0) 0
unfolding free_square field_in
mark_free f k l =
    let mark = every_tells (λ w. leb w 1) f.walls.now (facts f).are_marks k 0 l in
    let few = long f in
    grind (arith, nat_tests)

-- whether the goal of a leg may be entered
pub open_is : (l : Leg) → enter (field_of l.field) l.goal l.last l.goal
    ≡ (eqb (get_or l.ground.now l.goal 0) 65535 || (l.last && free_square (field_of l.field) l.goal))
open_is l = ground_enter (field_of l.field) l.goal l.last l.ground.now l.over

pub walls_least : (f : Lent) → 1 ≤ length f.walls.now
walls_least f = omega (arith, long f, mul-le 1 1 f.across f.down (facts f).across_least (facts f).down_least)

-- tests of numbers, and how many marks a field has
pub ruleset sizes = (nat_tests, long, walls_least)

pub start_below : (l : Leg) → l.start < 4096
start_below l = omega (arith, l.here, squares_most l.field)

pub goal_below : (l : Leg) → l.goal < 4096
goal_below l = omega (arith, l.there, squares_most l.field)

-- a bay is a free square of its field
pub bay_free : (f : Lent) (j : ℕ) → j < length f.bays.now → free_square (field_of f) (get_or f.bays.now j 0) ≡ true
unfolding field_in
bay_free f j l = (sound_tells (field_of f) (facts f).is_sound).bay_free j l

pub free_below : (f : Lent) (c : ℕ) → free_square (field_of f) c ≡ true → c < f.across * f.down
unfolding free_square field_in
free_below f c h = ltb-true c (f.across * f.down) (and_parts (ltb c (f.across * f.down)) _ h).0

pub bay_below : (f : Lent) (j : ℕ) → j < length f.bays.now → get_or f.bays.now j 0 < 4096
bay_below f j l = omega (arith, free_below f (get_or f.bays.now j 0) (bay_free f j l), squares_most f)
