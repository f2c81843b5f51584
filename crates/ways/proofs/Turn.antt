-- The numbers of steps: two steps from one square with the same number lead to the same square.
use Rattle.std.proofs.Common.{◌≡◌, ℕ, suc, ◌+◌, ◌<◌, Bool, true, false, cond, ◌&&◌, eqb, ltb, List, ◌∷◌, refl, ap, ◌∙◌, arith}
use Rattle.std.proofs.lemmas.Bool.{eq-eqb, lt-ltb, and_from, or_left, or_right}
use Rattle.std.proofs.lemmas.Bool.Decides.{nat_tests}
use Rattle.rules.specs.Field.{Field, beside}
use Rattle.field.specs.Directions.{rank}
use Rattle.field.specs.declared.direction.Direction.{Direction}
use Rattle.field.specs.declared.direction.Direction.TheVariants.{Right, Down, Left, Up}
use Rattle.ways.specs.Order.{turn, before}

rank_cond : (b : Bool) (d e : Direction) → rank (cond b d e) ≡ cond b (rank d) (rank e)
rank_cond true d e = refl
rank_cond false d e = refl

-- the number of a step, by where it leads
pub turn_is : (f : Field) (c d : ℕ) → turn f c d ≡ cond (eqb (c + f.across) d) 1 (cond (eqb (suc c) d) 0 (cond (eqb (d + f.across) c) 3 2))
unfolding turn
turn_is f c d =
    rank_cond (eqb (c + f.across) d) Down _
    ∙ ap (cond (eqb (c + f.across) d) 1) (rank_cond (eqb (suc c) d) Right _ ∙ ap (cond (eqb (suc c) d) 0) (rank_cond (eqb (d + f.across) c) Up Left))

pub turn_same : (f : Field) (c d e : ℕ) → beside f c d ≡ true → beside f c e ≡ true → turn f c d ≡ turn f c e → d ≡ e
unfolding beside
turn_same f c d e p q t = let a = turn_is f c d in let b = turn_is f c e in grind (arith, nat_tests)

-- a smaller first step comes before, and so does the same step with a rest that does
pub before_now : (f : Field) (c d e : ℕ) (ds es : List ℕ) → turn f c d < turn f c e → before f c (d ∷ ds) (e ∷ es) ≡ true
unfolding before
before_now f c d e ds es lt = or_left (ltb (turn f c d) (turn f c e)) (eqb d e && before f d ds es) (lt-ltb (turn f c d) (turn f c e) lt)

pub before_later : (f : Field) (c d : ℕ) (ds es : List ℕ) → before f d ds es ≡ true → before f c (d ∷ ds) (d ∷ es) ≡ true
unfolding before
before_later f c d ds es h =
    or_right (ltb (turn f c d) (turn f c d)) (eqb d d && before f d ds es) (and_from (eqb d d) (before f d ds es) (eq-eqb d d refl) h)
