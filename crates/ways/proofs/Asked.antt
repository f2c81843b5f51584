-- By which number a question is turned away, and what is known of one that is not.
use Rattle.std.proofs.Common.{◌≡◌, ℕ, ◌*◌, ◌<◌, ◌≤◌, true, false, eqb, ltb, leb, List, length, get_or, arith}
use Rattle.std.proofs.lemmas.Bool.{and_parts, leb-true, ltb-true, eqb-true}
use Rattle.std.proofs.lemmas.Bool.Decides.{nat_tests}
use Rattle.rules.specs.Tests.{every}
use Rattle.rules.specs.Field.{Field, free_square}
use Rattle.rules.specs.Memory.{FieldNumbers, field_in, field_ok}
use Rattle.rules.proofs.Tests.{every_tells}
use Rattle.ways.specs.Asked.{start_ok, asked_ok, way_refusal}

module _ (lent : FieldNumbers) (i c : ℕ) (row : List ℕ) (n : ℕ) where
  pub refused_field : field_ok lent ≡ false → way_refusal lent i c row n ≡ 1
  unfolding way_refusal
  refused_field h = grind (arith, nat_tests)

  pub refused_shuttle : field_ok lent ≡ true → length lent.bays ≤ i → way_refusal lent i c row n ≡ 3
  unfolding way_refusal
  refused_shuttle h l = grind (arith, nat_tests)

  pub refused_asked :
      field_ok lent ≡ true → i < length lent.bays → asked_ok (field_in lent) i c row n ≡ false → way_refusal lent i c row n ≡ 5
  unfolding way_refusal
  refused_asked h l k = grind (arith, nat_tests)

  pub refused_not :
      field_ok lent ≡ true → i < length lent.bays → asked_ok (field_in lent) i c row n ≡ true → way_refusal lent i c row n ≡ 0
  unfolding way_refusal
  refused_not h l k = grind (arith, nat_tests)

-- the parts of a question that is not turned away
pub record Asked (f : Field) (i c : ℕ) (row : List ℕ) (n : ℕ) : Type 0 where
  pub few : length row ≤ 8
  pub inside : (k : ℕ) → k < length row → get_or row k 0 < f.across * f.down
  pub free : free_square f c ≡ true
  pub places : n ≡ 256

pub asked_tells : (f : Field) (i c : ℕ) (row : List ℕ) (n : ℕ) → asked_ok f i c row n ≡ true → Asked f i c row n
unfolding asked_ok start_ok
asked_tells f i c row n h =
    let p = and_parts (leb (length row) 8) _ h in
    let q = and_parts (every (λ g. ltb g (f.across * f.down)) row) _ p.1 in
    let s = and_parts (start_ok f i c) (eqb n 256) q.1 in
    record {
      few = leb-true _ _ p.0;
      inside = λ k l. ltb-true _ _ (every_tells (λ g. ltb g (f.across * f.down)) row q.0 k 0 l);
      free = (and_parts (free_square f c) _ s.0).0;
      places = eqb-true _ _ s.1;
    }
