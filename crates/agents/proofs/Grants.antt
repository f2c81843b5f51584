-- The grant rule: the test and its parts, that it keeps safety, and that somebody is always granted what it needs.
use Rattle.std.proofs.Common.{◌≡◌, ℕ, ◌<◌, Bool, true, false, not, ◌||◌, List, ◌++◌, Decides, sym, refl, ◌∙◌, ⊎_elim, arith}
use Rattle.std.proofs.lemmas.Bool.{cases_eq, both_ways, and_parts, and_from, or_cases, false_from_ne_true}
use Rattle.std.proofs.lemmas.Bool.Decides.{nat_tests}
use Rattle.agents.specs.Numbers.{meets, Within}
use Rattle.agents.specs.Kinds.{Kind, put, blocks, goes_under, all_go, keeps, free_for, may}
use Rattle.agents.specs.Kinds.{GoesUnder, AllGo, Kept, FreeFor, Apart, Granted}
use Rattle.agents.proofs.Tests.{all_below_is, follows_is, meets_tells, meets_from, among_append}
use Rattle.agents.proofs.Going.{below, free_one}
use Rattle.agents.proofs.Taking.{can_go_is}
use Rattle.agents.proofs.Changes.{meets_within, kept_first, goes_first, apart_put}

module _ {S : Type 0} (K : Kind S) (n : ℕ) (g : ℕ → S) where
  pub goes_under_is : (c : S → Bool) (i : ℕ) → Decides (goes_under K n g c i) (GoesUnder K n g c i)
  unfolding goes_under
  goes_under_is c i = can_go_is n (blocks K g) (λ j. c (g j)) i

  pub all_go_is : Decides (all_go K n g) (AllGo K n g)
  unfolding all_go
  all_go_is = all_below_is n _ (GoesUnder K n g (λ _. false)) (goes_under_is (λ _. false))

  pub free_for_is : (i : ℕ) (cs : List ℕ) → Decides (free_for K n g i cs) (FreeFor K n g i cs)
  unfolding free_for
  free_for_is i cs = all_below_is n _ (λ j. (i ≡ j → ⊥) → meets (K.held (g j)) cs ≡ false)
      (λ j. (
        λ e ne. grind (arith, nat_tests),
        λ f. ⊎_elim (λ (e : i ≡ j). grind (arith, nat_tests)) (λ ne. let e = f ne in grind (arith, nat_tests))
            (cases_eq i j),
      ))

module _ {S : Type 0} (K : Kind S) (n : ℕ) where
  pub keeps_is : (g h : ℕ → S) → Decides (keeps K n g h) ((l : ℕ) → l < K.closings → Kept K n g h (K.shut l))
  unfolding keeps
  keeps_is g h = all_below_is K.closings _ (λ l. Kept K n g h (K.shut l))
      (λ l. let each = all_below_is n (λ i. not (goes_under K n g (K.shut l) i) || goes_under K n h (K.shut l) i)
      (λ i. GoesUnder K n g (K.shut l) i → GoesUnder K n h (K.shut l) i)
      (λ i. follows_is _ _ (goes_under_is K n g (K.shut l) i) (goes_under_is K n h (K.shut l) i)) in
      (λ e i o. each.0 e i (below o) o, λ f. each.1 (λ i _. f i)))

  module _ (g : ℕ → S) (i : ℕ) (cs : List ℕ) (s : S) where
    -- the rule by trying is the rule
    pub may_is : Decides (may K n g i cs s) (Granted K n g i cs s)
    unfolding may
    may_is = (
      λ e. let (p, r) = and_parts _ _ e in let (q, r') = and_parts _ _ r in
          record { free = (free_for_is K n g i cs).0 p; all = (all_go_is K n (put g i s)).0 q; each = (keeps_is g (put g i s)).0 r' },
      λ h. and_from _ _ ((free_for_is K n g i cs).1 h.free)
          (and_from _ _ ((all_go_is K n (put g i s)).1 h.all) ((keeps_is g (put g i s)).1 h.each)),
    )

    -- a granted change keeps all apart, if what the agent holds after it is what it held or entered
    pub granted_apart : Apart K n g → i < n → Within (K.held s) (cs ++ K.held (g i)) → Granted K n g i cs s → Apart K n (put g i s)
    granted_apart p l w h = apart_put K n g i s p (λ j m ne. false_from_ne_true _ (λ e.
        let (c, a, b) = meets_tells (K.held (g j)) (K.held s) e in
        ⊎_elim (λ q. both_ways _ (h.free j m ne) (meets_from _ cs c a q))
        (λ q. both_ways _ (p i l j m ne) (meets_from _ (K.held (g i)) c a q))
        (or_cases _ _ (sym (among_append c cs (K.held (g i))) ∙ w c b))))

    -- a change is granted if everybody could go and the changed one can go first
    pub may_first : AllGo K n g → i < n → FreeFor K n g i cs →
        ((j : ℕ) → j < n → (i ≡ j → ⊥) → meets (K.settled (g j)) (K.needs s) ≡ false) →
        ((l : ℕ) → l < K.closings → K.shut l s ≡ false) → may K n g i cs s ≡ true
    may_first o m f q c = may_is.1 (record {
      free = f;
      all = λ j l. kept_first K n g i s (λ _. false) (goes_first K n g i s (λ _. false) m refl q) j (o j l);
      each = λ l h. kept_first K n g i s (K.shut l) (goes_first K n g i s (K.shut l) m (c l h) q);
    })

    -- so it is if no other holds what the agent enters and what it still needs: the way back
    pub may_free : ((j : ℕ) → j < n → Within (K.settled (g j)) (K.held (g j))) → AllGo K n g → i < n → FreeFor K n g i cs →
        FreeFor K n g i (K.needs s) →
        ((l : ℕ) → l < K.closings → K.shut l s ≡ false) → may K n g i cs s ≡ true
    may_free w o m f q = may_first o m f
        (λ j l ne. false_from_ne_true _ (λ e. both_ways _ (q j l ne)
        (meets_within (K.settled (g j)) (K.needs s) (K.held (g j)) (K.needs s) (w j l) (λ _ a. a) e)))

  -- where everybody holds only where it settles and everybody can go, and idle ones block nobody: if one that is not idle can go under the
  -- largest closing,
  -- so can some k, and k is granted whatever enters and leaves only places that k needs
  pub some_goes : (g : ℕ → S) (top : S → Bool) → ((l : ℕ) (s : S) → l < K.closings → K.shut l s ≡ true → top s ≡ true) →
      ((i : ℕ) → i < n → Within (K.held (g i)) (K.settled (g i))) → AllGo K n g →
      ((i j : ℕ) → i < n → j < n → (i ≡ j → ⊥) → K.idle (g j) ≡ true → blocks K g i j ≡ false) →
      (i : ℕ) → GoesUnder K n g top i → K.idle (g i) ≡ false →
      (k : ℕ) × GoesUnder K n g top k × (K.idle (g k) ≡ false) ×
      ((cs : List ℕ) (s : S) → Within cs (K.needs (g k)) → Within (K.needs s) (K.needs (g k)) → top s ≡ false →
      may K n g k cs s ≡ true)
  unfolding blocks
  some_goes g top larger w o quiet i h e =
      let (k, a, b, f) = free_one (λ j. K.idle (g j)) quiet h e in
      let free : (xs ys : List ℕ) (j : ℕ) → j < n → (k ≡ j → ⊥) → Within xs (K.settled (g j)) → Within ys (K.needs (g k)) →
      meets xs ys ≡ false =
      λ xs ys j m ne p q. false_from_ne_true _ (λ v. both_ways _ (f j m ne) (meets_within xs ys (K.settled (g j)) (K.needs (g k)) p q v)) in (
        k,
        a,
        b,
        λ cs s p q t. may_first g k cs s o (below a) (λ j m ne. free (K.held (g j)) cs j m ne (w j m) p)
            (λ j m ne. free (K.settled (g j)) (K.needs s) j m ne (λ _ z. z) q)
            (λ l m. false_from_ne_true _ (λ v. both_ways _ t (larger l s m v))),
      )
