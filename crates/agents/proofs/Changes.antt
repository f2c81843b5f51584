-- Who can go after a change of the fleet, and of one agent.
use Rattle.std.proofs.Common.{◌≡◌, ℕ, ◌<◌, Bool, true, false, List, sym, refl, ap, ◌∙◌, subst, inl, inr, ⊎_elim}
use Rattle.std.proofs.lemmas.Bool.{cases_eq, both_ways}
use Rattle.std.specs.Cmp.{both_ways as same_test}
use Rattle.agents.specs.Numbers.{meets, Within}
use Rattle.agents.specs.Going.{goes}
use Rattle.agents.specs.Kinds.{Kind, put, blocks, GoesUnder, Kept, FreeFor, Apart}
use Rattle.agents.proofs.Tests.{meets_tells, meets_from}
use Rattle.agents.proofs.Going.{kept, kept_fewer}
use Rattle.agents.proofs.Fleets.{put_each, put_here, put_other}

pub meets_within : (xs ys xs' ys' : List ℕ) → Within xs xs' → Within ys ys' → meets xs ys ≡ true → meets xs' ys' ≡ true
meets_within xs ys xs' ys' p q e = let (c, a, b) = meets_tells xs ys e in meets_from xs' ys' c (p c a) (q c b)

pub meets_swap : (xs ys : List ℕ) → meets xs ys ≡ meets ys xs
meets_swap xs ys = same_test _ _ (half xs ys) (half ys xs)
  where
    half : (xs ys : List ℕ) → meets xs ys ≡ true → meets ys xs ≡ true
    half xs ys e = let (c, a, b) = meets_tells xs ys e in meets_from ys xs c b a

-- nobody settles in more places, needs more or is newly closed: whoever could go can go
pub kept_less : {S : Type 0} (K : Kind S) (n : ℕ) (g h : ℕ → S) (c : S → Bool) →
    ((i : ℕ) → i < n → Within (K.settled (h i)) (K.settled (g i)) × Within (K.needs (h i)) (K.needs (g i)) ×
    (c (h i) ≡ true → c (g i) ≡ true)) → Kept K n g h c
unfolding blocks
kept_less K n g h c f i = kept_fewer
    (λ a b l m ne. meets_within (K.settled (h b)) (K.needs (h a)) (K.settled (g b)) (K.needs (g a)) (f b m).0 (f a l).1)
    (λ a l. (f a l).2)

module _ {S : Type 0} (K : Kind S) (n : ℕ) (g : ℕ → S) (i : ℕ) (s : S) where
  -- who blocks whom after the change
  block_same : (a b : ℕ) → (a ≡ i → ⊥) → (b ≡ i → ⊥) → blocks K (put g i s) a b ≡ blocks K g a b
  unfolding blocks
  block_same a b p q = let e = put_other g i s a p in let e' = put_other g i s b q in cc

  block_by : (a : ℕ) → (a ≡ i → ⊥) → blocks K (put g i s) a i ≡ meets (K.settled s) (K.needs (g a))
  unfolding blocks
  block_by a p = let e = put_other g i s a p in let e' = put_here g i s in cc

  block_of : (b : ℕ) → (b ≡ i → ⊥) → blocks K (put g i s) i b ≡ meets (K.settled (g b)) (K.needs s)
  unfolding blocks
  block_of b p = let e = put_other g i s b p in let e' = put_here g i s in cc

  module _ (c : S → Bool) where
    -- if the changed one can go, whoever could go can go
    pub kept_first : GoesUnder K n (put g i s) c i → Kept K n g (put g i s) c
    kept_first o a h = kept (λ _. Unit {0})
        (λ a l _. ⊎_elim (λ e. inl (subst (GoesUnder K n (put g i s) c) (sym e) o))
        (λ p. inr (
          subst (λ x. c x ≡ true) (put_other g i s a p),
          λ b m ne e. ⊎_elim
              (λ q. inr (subst (GoesUnder K n (put g i s) c) (sym q) o)) (λ q. inl (sym (block_same a b p q) ∙ e, tt)) (cases_eq b i),
        ))
        (cases_eq a i))
        h tt

    -- the changed one can go if it is not closed and nobody blocks it
    pub goes_first : i < n → c s ≡ false → ((j : ℕ) → j < n → (i ≡ j → ⊥) → meets (K.settled (g j)) (K.needs s) ≡ false) →
        GoesUnder K n (put g i s) c i
    goes_first l e f = goes i l (ap c (put_here g i s) ∙ e)
        (λ j m ne b. absurd (both_ways _ (f j m ne) (sym (block_of j (λ q. ne (sym q))) ∙ b)))

    -- if the changed one blocks nobody, each other that could go can go
    pub kept_aside : ((j : ℕ) → j < n → (j ≡ i → ⊥) → meets (K.settled s) (K.needs (g j)) ≡ false) → (j : ℕ) → (j ≡ i → ⊥) →
        GoesUnder K n g c j → GoesUnder K n (put g i s) c j
    kept_aside f j p h = kept (λ j. j ≡ i → ⊥)
        (λ a l p. inr (
          subst (λ x. c x ≡ true) (put_other g i s a p),
          λ b m ne e.
              ⊎_elim (λ q. absurd (both_ways _ (f a l p) (sym (block_by a p) ∙ subst (λ x. blocks K (put g i s) a x ≡ true) q e)))
              (λ q. inl (sym (block_same a b p q) ∙ e, q)) (cases_eq b i),
        ))
        h p

    -- and the changed one can go too if it is not closed and those that block it could go
    pub goes_last : i < n → c s ≡ false → ((j : ℕ) → j < n → (j ≡ i → ⊥) → meets (K.settled s) (K.needs (g j)) ≡ false) →
        ((j : ℕ) → j < n → (i ≡ j → ⊥) → meets (K.settled (g j)) (K.needs s) ≡ true → GoesUnder K n g c j) →
        GoesUnder K n (put g i s) c i
    goes_last l e f h = goes i l (ap c (put_here g i s) ∙ e)
        (λ j m ne b. let q : j ≡ i → ⊥ = λ q. ne (sym q) in kept_aside f j q (h j m ne (sym (block_of j q) ∙ b)))

  -- no two hold a place together after it, if no other holds what the changed one holds
  pub apart_put : Apart K n g → FreeFor K n g i (K.held s) → Apart K n (put g i s)
  apart_put p f = put_each (λ a x. a < n → FreeFor K n (put g i s) a (K.held x)) g i s
      (λ l. put_each (λ b y. b < n → (i ≡ b → ⊥) → meets (K.held y) (K.held s) ≡ false) g i s (λ m ne. absurd (ne refl))
      (λ b q m ne. f b m ne))
      (λ a q l. put_each (λ b y. b < n → (a ≡ b → ⊥) → meets (K.held y) (K.held (g a)) ≡ false) g i s
      (λ m ne. meets_swap (K.held s) (K.held (g a)) ∙ f a l (λ e. q (sym e))) (λ b q' m ne. p a l b m ne))
