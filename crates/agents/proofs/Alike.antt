-- Fleets of different kinds in which each holds, settles in and needs the same: the same can go, and the same is granted.
use Rattle.std.proofs.Common.{◌≡◌, ℕ, ◌<◌, Bool, true, false, eqb, ◌⊎◌, List, sym, ap, ◌∙◌, ap₂, subst₂, ⊎_elim}
use Rattle.std.proofs.lemmas.Bool.{both_ways, cases_Bool, cond-true, cond-false}
use Rattle.std.specs.Cmp.{both_ways as same_test}
use Rattle.agents.specs.Numbers.{meets}
use Rattle.agents.specs.Kinds.{Kind, put, blocks, goes_under, may, GoesUnder, Granted}
use Rattle.agents.proofs.Going.{below, kept_fewer}
use Rattle.agents.proofs.Grants.{goes_under_is, may_is}

-- what holds of each pair of two fleets holds after a change of one agent in both
pub put_both : {S S' : Type 0} (R : S → S' → Type 0) (n : ℕ) (g : ℕ → S) (g' : ℕ → S') (k : ℕ) (s : S) (s' : S') →
    ((i : ℕ) → i < n → R (g i) (g' i)) → R s s' → (i : ℕ) → i < n → R (put g k s i) (put g' k s' i)
unfolding put
put_both R n g g' k s s' f r i l = ⊎_elim
    (λ (e : eqb i k ≡ true). subst₂ R (sym (cond-true _ s (g i) e)) (sym (cond-true _ s' (g' i) e)) r)
    (λ (e : eqb i k ≡ false). subst₂ R (sym (cond-false _ s (g i) e)) (sym (cond-false _ s' (g' i) e)) (f i l))
    (cases_Bool (eqb i k))

-- two agents hold, settle in and need the same
pub record Like {S S' : Type 0} (K : Kind S) (K' : Kind S') (s : S) (s' : S') : Type 0 where
  pub held : K.held s ≡ K'.held s'
  pub settled : K.settled s ≡ K'.settled s'
  pub needs : K.needs s ≡ K'.needs s'

-- each closing of the first kind is one of the second, or closes nobody
abbrev pub Matched : {S S' : Type 0} (K : Kind S) (K' : Kind S') (n : ℕ) (g : ℕ → S) (g' : ℕ → S') (s : S) (s' : S') → Type 0
Matched K K' n g g' s s' = (l : ℕ) → l < K.closings →
    ((l' : ℕ) × (l' < K'.closings) × ((i : ℕ) → i < n → K.shut l (g i) ≡ K'.shut l' (g' i)) × (K.shut l s ≡ K'.shut l' s'))
    ⊎ (((i : ℕ) → i < n → K.shut l (g i) ≡ false) × (K.shut l s ≡ false))

module _ {S S' : Type 0} {K : Kind S} {K' : Kind S'} where
  pub like_back : {s : S} {s' : S'} → Like K K' s s' → Like K' K s' s
  like_back h = record { held = sym h.held; settled = sym h.settled; needs = sym h.needs }

module _ {S S' : Type 0} (K : Kind S) (K' : Kind S') (n : ℕ) where
  goes_half : (g : ℕ → S) (g' : ℕ → S') → ((i : ℕ) → i < n → Like K K' (g i) (g' i)) → (c : S → Bool) (c' : S' → Bool) →
      ((i : ℕ) → i < n → c' (g' i) ≡ true → c (g i) ≡ true) →
      (i : ℕ) → GoesUnder K n g c i → GoesUnder K' n g' c' i
  unfolding blocks
  goes_half g g' f c c' e i = kept_fewer (λ a b l m ne v. ap₂ meets (f b m).settled (f a l).needs ∙ v) e

module _ {S S' : Type 0} (K : Kind S) (K' : Kind S') (n : ℕ) where
  granted_half : (g : ℕ → S) (g' : ℕ → S') → ((i : ℕ) → i < n → Like K K' (g i) (g' i)) → (s : S) (s' : S') → Like K K' s s' →
      Matched K' K n g' g s' s →
      (i : ℕ) (cs : List ℕ) → Granted K n g i cs s → Granted K' n g' i cs s'
  granted_half g g' f s s' e c i cs h =
      let f' = put_both (Like K K') n g g' i s s' f e in
      record {
        free = λ j l ne. ap (λ x. meets x cs) (sym (f j l).held) ∙ h.free j l ne;
        all = λ j l. goes_half K K' n (put g i s) (put g' i s') f' (λ _. false) (λ _. false) (λ _ _ z. z) j (h.all j l);
        each = λ l m j o. ⊎_elim
            (λ (t : (l' : ℕ) × (l' < K.closings) × ((i : ℕ) → i < n → K'.shut l (g' i) ≡ K.shut l' (g i)) ×
            (K'.shut l s' ≡ K.shut l' s)).
            let (l', m', p, q) = t in
            goes_half K K' n (put g i s) (put g' i s') f' (K.shut l') (K'.shut l)
            (λ a z v. sym (put_both (λ x y. K'.shut l y ≡ K.shut l' x) n g g' i s s' p q a z) ∙ v) j
            (h.each l' m' j (goes_half K' K n g' g (λ a z. like_back (f a z)) (K'.shut l) (K.shut l') (λ a z v. p a z ∙ v) j o)))
            (λ (t : ((i : ℕ) → i < n → K'.shut l (g' i) ≡ false) × (K'.shut l s' ≡ false)).
            goes_half K K' n (put g i s) (put g' i s') f' (λ _. false) (K'.shut l)
            (λ a z v. absurd (both_ways _ (put_both (λ x y. K'.shut l y ≡ false) n g g' i s s' t.0 t.1 a z) v)) j
            (h.all j (below o)))
            (c l m);
      }

module _ {S S' : Type 0} (K : Kind S) (K' : Kind S') (n : ℕ) (g : ℕ → S) (g' : ℕ → S')
    (alike : (i : ℕ) → i < n → Like K K' (g i) (g' i)) where
  -- in fleets that are alike the same can go
  pub goes_like : (c : S → Bool) (c' : S' → Bool) → ((i : ℕ) → i < n → c (g i) ≡ c' (g' i)) → (i : ℕ) →
      goes_under K n g c i ≡ goes_under K' n g' c' i
  goes_like c c' e i = same_test _ _
      (λ h. (goes_under_is K' n g' c' i).1 (goes_half K K' n g g' alike c c' (λ a l v. e a l ∙ v) i ((goes_under_is K n g c i).0 h)))
      (λ h. (goes_under_is K n g c i).1
      (goes_half K' K n g' g (λ a l. like_back (alike a l)) c' c (λ a l v. sym (e a l) ∙ v) i ((goes_under_is K' n g' c' i).0 h)))

  -- and the same changes are granted, also where one kind has closings that close nobody
  pub may_like : (s : S) (s' : S') → Like K K' s s' → Matched K K' n g g' s s' → Matched K' K n g' g s' s → (i : ℕ) (cs : List ℕ) →
      may K n g i cs s ≡ may K' n g' i cs s'
  may_like s s' e c c' i cs = same_test _ _
      (λ h. (may_is K' n g' i cs s').1 (granted_half K K' n g g' alike s s' e c' i cs ((may_is K n g i cs s).0 h)))
      (λ h. (may_is K n g i cs s).1
      (granted_half K' K n g' g (λ a l. like_back (alike a l)) s' s (like_back e) c i cs ((may_is K' n g' i cs s').0 h)))
