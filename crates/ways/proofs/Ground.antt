-- The squares of a field that are free and nobody's bay, in a table, and the table of a leg made from it.
use Rattle.std.proofs.Common.{◌≡◌, ℕ, Bool, true, false, not, ◌&&◌, ◌||◌, eqb, List, length, get_or, sym, ap, ◌∙◌, inl, inr, ⊎_elim, arith}
use Rattle.std.proofs.lemmas.List.{get_or_default, get_or_past}
use Rattle.std.proofs.lemmas.Bool.{cases_eq, cases_lt, cases_Bool, ne_eqb, cond-true, cond-false, both_ways}
use Rattle.std.proofs.lemmas.Bool.Decides.{nat_tests}
use Rattle.rules.specs.Field.{Field, free_square, is_bay}
use Rattle.ways.specs.Good.{enter}
use Rattle.ways.specs.Distances.{distance_in, Prepared, is_open, Ground}

enter_off : (f : Field) (g : ℕ) (end : Bool) (x : ℕ) → (x ≡ g → ⊥) → enter f g end x ≡ is_open f x
unfolding enter is_open
enter_off f g end x ne =
    let off : eqb x g ≡ false = ne_eqb x g ne in
    let tail : (not (is_bay f x) || (eqb x g && end)) ≡ not (is_bay f x) = grind (arith, nat_tests) in
    ap (λ (b : Bool). free_square f x && b) tail

-- the goal, if it may be entered, known, and the start not known yet, whether it may be entered or not
pub ground_prepared :
    (f : Field) (g : ℕ) (end : Bool) (s : ℕ) (ground table : List ℕ) → Ground f ground → enter f g end g ≡ true → (s ≡ g → ⊥)
    → distance_in table g ≡ 0 → distance_in table s ≡ 65535
    → ((x : ℕ) → (x ≡ g → ⊥) → (x ≡ s → ⊥) → distance_in table x ≡ distance_in ground x) → Prepared f g end s table
ground_prepared f g end s ground table G e apart zero far same =
    record {
      enters = e;
      goal = zero;
      marks = λ x ne. ⊎_elim
          (λ (q : x ≡ s). inl (inl q, ap (distance_in table) q ∙ far))
          (λ ns. ⊎_elim
          (λ y. inl (inr (enter_off f g end x ne ∙ y), same x ne ns ∙ (G x ∙ cond-true (is_open f x) 65535 65534 y)))
          (λ n. inr ((λ v. ⊎_elim ns (λ h. both_ways (is_open f x) n (sym (enter_off f g end x ne) ∙ h)) v), same x ne ns ∙ (G x ∙ cond-false (is_open f x) 65535 65534 n)))
          (cases_Bool (is_open f x)))
          (cases_eq x s);
    }

-- whether the goal may be entered
pub goal_open : (f : Field) (g : ℕ) (end : Bool) → enter f g end g ≡ (is_open f g || (end && free_square f g))
unfolding enter is_open
goal_open f g end = grind (arith, nat_tests)

-- what a table of the ground says of a square
pub ground_open : (f : Field) (ground : List ℕ) (x : ℕ) → Ground f ground → distance_in ground x ≡ 65535 → is_open f x ≡ true
ground_open f ground x G e =
    ⊎_elim (λ y. y) (λ n. let z : distance_in ground x ≡ 65534 = G x ∙ cond-false (is_open f x) 65535 65534 n in absurd (omega arith)) (cases_Bool (is_open f x))

pub ground_shut : (f : Field) (ground : List ℕ) (x : ℕ) → Ground f ground → (distance_in ground x ≡ 65535 → ⊥) → is_open f x ≡ false
ground_shut f ground x G ne =
    ⊎_elim (λ y. absurd (ne (G x ∙ cond-true (is_open f x) 65535 65534 y))) (λ n. n) (cases_Bool (is_open f x))

-- what a table says at a square that none has come to yet, whatever it says past its end
pub far_read : (table : List ℕ) (x : ℕ) → eqb (get_or table x 0) 65535 ≡ eqb (distance_in table x) 65535
far_read table x =
    ⊎_elim
    (λ l. ap (λ (y : ℕ). eqb y 65535) (get_or_default table x 0 65534 l))
    (λ l. ap (λ (y : ℕ). eqb y 65535) (get_or_past table x 0 l) ∙ sym (ap (λ (y : ℕ). eqb y 65535) (get_or_past table x 65534 l)))
    (cases_lt x (length table))

-- whether the goal may be entered, by the table of the ground
pub ground_enter : (f : Field) (g : ℕ) (end : Bool) (ground : List ℕ) → Ground f ground
    → enter f g end g ≡ (eqb (get_or ground g 0) 65535 || (end && free_square f g))
ground_enter f g end ground G =
    ⊎_elim
    (λ y. let e : distance_in ground g ≡ 65535 = G g ∙ cond-true (is_open f g) 65535 65534 y in let r = far_read ground g in let o = goal_open f g end in grind (arith, nat_tests))
    (λ n. let e : distance_in ground g ≡ 65534 = G g ∙ cond-false (is_open f g) 65535 65534 n in let r = far_read ground g in let o = goal_open f g end in grind (arith, nat_tests))
    (cases_Bool (is_open f g))
