-- What an accepted field tells.
use Rattle.std.proofs.Common.{◌≡◌, ℕ, ◌*◌, ◌<◌, ◌≤◌, true, false, eqb, leb, length}
use Rattle.std.proofs.lemmas.Nat.{mul-le}
use Rattle.std.proofs.lemmas.Bool.{and_parts, leb-true, eqb-true, not-true}
use Rattle.rules.specs.Tests.{every}
use Rattle.rules.specs.Field.{Field, sound, bay_ok, free_square, is_bay_to}
use Rattle.rules.specs.Memory.{FieldNumbers, field_in, field_ok}
use Rattle.rules.proofs.Tests.{every_to_tells}

-- a sound field has a square, and each bay is a free square and no earlier bay
pub record Sound (f : Field) : Type 0 where
  pub wide : 1 ≤ f.across
  pub deep : 1 ≤ f.down
  pub bay_free : (i : ℕ) → i < f.shuttles → free_square f (f.bay i) ≡ true
  pub bay_own : (i : ℕ) → i < f.shuttles → is_bay_to f i (f.bay i) ≡ false

pub sound_tells : (f : Field) → sound f ≡ true → Sound f
unfolding sound bay_ok
sound_tells f h =
    let p = and_parts (leb 1 f.across) _ h in
    let q = and_parts (leb 1 f.down) _ p.1 in
    let each = every_to_tells (bay_ok f) f.shuttles q.1 in
    record {
      wide = leb-true _ _ p.0;
      deep = leb-true _ _ q.0;
      bay_free = λ i l. (and_parts _ _ (each i l)).0;
      bay_own = λ i l. not-true _ (and_parts _ _ (each i l)).1;
    }

-- the parts of an accepted field
pub record Accepted (lent : FieldNumbers) : Type 0 where
  pub across_most : lent.across ≤ 64
  pub down_most : lent.down ≤ 64
  pub walls_long : length lent.walls ≡ lent.across * lent.down
  pub are_marks : every (λ w. leb w 1) lent.walls ≡ true
  pub few : length lent.bays ≤ 16
  pub is_sound : sound (field_in lent) ≡ true
  pub across_least : 1 ≤ lent.across
  pub down_least : 1 ≤ lent.down
  pub squares_least : 1 ≤ lent.across * lent.down
  pub squares_most : lent.across * lent.down ≤ 4096

pub accepted : (lent : FieldNumbers) → field_ok lent ≡ true → Accepted lent
unfolding field_ok field_in
accepted lent h =
    let p1 = and_parts (leb lent.across 64) _ h in
    let p2 = and_parts (leb lent.down 64) _ p1.1 in
    let p3 = and_parts (eqb (length lent.walls) (lent.across * lent.down)) _ p2.1 in
    let p4 = and_parts (every (λ w. leb w 1) lent.walls) _ p3.1 in
    let p5 = and_parts (leb (length lent.bays) 16) _ p4.1 in
    let s = sound_tells (field_in lent) p5.1 in
    record {
      across_most = leb-true _ _ p1.0;
      down_most = leb-true _ _ p2.0;
      walls_long = eqb-true _ _ p3.0;
      are_marks = p4.0;
      few = leb-true _ _ p5.0;
      is_sound = p5.1;
      across_least = s.wide;
      down_least = s.deep;
      squares_least = mul-le 1 1 lent.across lent.down s.wide s.deep;
      squares_most = mul-le lent.across lent.down 64 64 (leb-true _ _ p1.0) (leb-true _ _ p2.0);
    }
