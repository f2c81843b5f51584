-- Meeting squares as early as can be: what is left of a row after some squares, and that nothing is left exactly if they visit it.
use Rattle.std.proofs.Common.{◌≡◌, ℕ, zero, suc, ◌<◌, eqb, List, [], ◌∷◌, ◌++◌, length, get_or, drop, sym, refl, ◌∙◌, subst, ⊎_elim, arith}
use Rattle.std.proofs.lemmas.Bool.{cases_eq, eq-eqb, ne_eqb, cond-true, cond-false}
use Rattle.ways.specs.Visit.{Visits}
use Rattle.ways.specs.Good.{past, unmet}

pub past_here : (c : ℕ) (gs : List ℕ) → past c (c ∷ gs) ≡ past c gs
unfolding past
past_here c gs = cond-true (eqb c c) (past c gs) (c ∷ gs) (eq-eqb c c refl)

pub past_other : (c g : ℕ) (gs : List ℕ) → (c ≡ g → ⊥) → past c (g ∷ gs) ≡ g ∷ gs
unfolding past
past_other c g gs ne = cond-false (eqb c g) (past c gs) (g ∷ gs) (ne_eqb c g ne)

-- a front that is left out does no harm, and one more square along the way neither
visits_here : (c : ℕ) (r gs : List ℕ) → Visits (c ∷ r) gs → Visits (c ∷ r) (c ∷ gs)
visits_here c r gs v = (0, omega arith, refl, v)

visits_later : (c d : ℕ) (ds gs : List ℕ) → Visits (d ∷ ds) gs → Visits (c ∷ (d ∷ ds)) gs
visits_later c d ds [] v = tt
visits_later c d ds (g ∷ gs) v = (suc v.0, omega (arith, v.1), v.2, v.3)

visits_past : (c : ℕ) (r gs : List ℕ) → Visits (c ∷ r) (past c gs) → Visits (c ∷ r) gs
unfolding past
visits_past c r [] v = tt
visits_past c r (g ∷ gs) v =
    ⊎_elim
    (λ e. let w : Visits (c ∷ r) (past c gs) = subst (λ (x : List ℕ). Visits (c ∷ r) x) (cond-true (eqb c g) (past c gs) (g ∷ gs) (eq-eqb c g e)) v in
    subst (λ (x : ℕ). Visits (c ∷ r) (x ∷ gs)) e (visits_here c r gs (visits_past c r gs w)))
    (λ ne. subst (λ (x : List ℕ). Visits (c ∷ r) x) (cond-false (eqb c g) (past c gs) (g ∷ gs) (ne_eqb c g ne)) v)
    (cases_eq c g)

-- what is met early is visited
pub met_visits : (c : ℕ) (r gs : List ℕ) → unmet c r gs ≡ [] → Visits (c ∷ r) gs
unfolding unmet
met_visits c [] gs e = visits_past c [] gs (subst (λ (x : List ℕ). Visits (c ∷ []) x) (sym e) tt)
met_visits c (d ∷ ds) gs e = visits_past c (d ∷ ds) gs (visits_later c d ds (past c gs) (met_visits d ds (past c gs) e))

-- the same, step by step: a square is met where one stands, or later
data Met : ℕ → List ℕ → List ℕ → Type 0 where
  done : {c : ℕ} {r : List ℕ} → Met c r []
  here : {c : ℕ} {r gs : List ℕ} → Met c r gs → Met c r (c ∷ gs)
  later : {c d : ℕ} {ds gs : List ℕ} → Met d ds gs → Met c (d ∷ ds) gs

met_at :
    (gs : List ℕ) → ((c : ℕ) (r : List ℕ) → Visits (c ∷ r) gs → Met c r gs)
    → (k c : ℕ) (r : List ℕ) (g : ℕ) → k < length (c ∷ r) → get_or (c ∷ r) k 0 ≡ g → Visits (drop k (c ∷ r)) gs → Met c r (g ∷ gs)
met_at gs rest zero c r g lt e v = subst (λ (x : ℕ). Met c r (x ∷ gs)) e (here (rest c r v))
met_at gs rest (suc k) c [] g lt e v = absurd (omega arith)
met_at gs rest (suc k) c (d ∷ ds) g lt e v = later (met_at gs rest k d ds g (omega arith) e v)

visits_met : (gs : List ℕ) (c : ℕ) (r : List ℕ) → Visits (c ∷ r) gs → Met c r gs
visits_met [] c r v = done
visits_met (g ∷ gs) c r v = met_at gs (visits_met gs) v.0 c r g v.1 v.2 v.3

met_tail : {c : ℕ} {r : List ℕ} {g : ℕ} {gs : List ℕ} → Met c r (g ∷ gs) → Met c r gs
met_tail (here m) = m
met_tail (later m) = later (met_tail m)

met_next : {c d : ℕ} {ds : List ℕ} {g : ℕ} {gs : List ℕ} → Met c (d ∷ ds) (g ∷ gs) → (c ≡ g → ⊥) → Met d ds (g ∷ gs)
met_next (here m) ne = absurd (ne refl)
met_next (later m) ne = m

met_last : {c g : ℕ} {gs : List ℕ} → Met c [] (g ∷ gs) → c ≡ g
met_last (here m) = refl

met_past : (c : ℕ) (r gs : List ℕ) → Met c r gs → Met c r (past c gs)
unfolding past
met_past c r [] m = m
met_past c r (g ∷ gs) m =
    ⊎_elim
    (λ e. subst (λ (x : List ℕ). Met c r x) (sym (cond-true (eqb c g) (past c gs) (g ∷ gs) (eq-eqb c g e))) (met_past c r gs (met_tail m)))
    (λ ne. subst (λ (x : List ℕ). Met c r x) (sym (cond-false (eqb c g) (past c gs) (g ∷ gs) (ne_eqb c g ne))) m)
    (cases_eq c g)

met_on : (c d : ℕ) (ds gs : List ℕ) → Met c (d ∷ ds) (past c gs) → Met d ds (past c gs)
unfolding past
met_on c d ds [] m = done
met_on c d ds (g ∷ gs) m =
    ⊎_elim
    (λ e. let q : past c (g ∷ gs) ≡ past c gs = cond-true (eqb c g) (past c gs) (g ∷ gs) (eq-eqb c g e) in
    subst (λ (x : List ℕ). Met d ds x) (sym q) (met_on c d ds gs (subst (λ (x : List ℕ). Met c (d ∷ ds) x) q m)))
    (λ ne. let q : past c (g ∷ gs) ≡ g ∷ gs = cond-false (eqb c g) (past c gs) (g ∷ gs) (ne_eqb c g ne) in
    subst (λ (x : List ℕ). Met d ds x) (sym q) (met_next (subst (λ (x : List ℕ). Met c (d ∷ ds) x) q m) ne))
    (cases_eq c g)

past_all : (c : ℕ) (gs : List ℕ) → Met c [] gs → past c gs ≡ []
unfolding past
past_all c [] m = refl
past_all c (g ∷ gs) m = cond-true (eqb c g) (past c gs) (g ∷ gs) (eq-eqb c g (met_last m)) ∙ past_all c gs (met_tail m)

met_none : (r : List ℕ) (c : ℕ) (gs : List ℕ) → Met c r gs → unmet c r gs ≡ []
unfolding unmet
met_none [] c gs m = past_all c gs m
met_none (d ∷ ds) c gs m = met_none ds d (past c gs) (met_on c d ds gs (met_past c (d ∷ ds) gs m))

-- what is visited is met early
pub visits_none : (c : ℕ) (r gs : List ℕ) → Visits (c ∷ r) gs → unmet c r gs ≡ []
visits_none c r gs v = met_none r c gs (visits_met gs c r v)

-- the last of square c and the squares r
unfoldable pub last : ℕ → List ℕ → ℕ
last c [] = c
last c (d ∷ ds) = last d ds

last_met : (r : List ℕ) (c b : ℕ) → last c r ≡ b → Met c r (b ∷ [])
unfolding last
last_met [] c b e = subst (λ (x : ℕ). Met c [] (x ∷ [])) e (here done)
last_met (d ∷ ds) c b e = later (last_met ds d b e)

met_end : {c : ℕ} {r gs : List ℕ} → (b : ℕ) → last c r ≡ b → Met c r gs → Met c r (gs ++ (b ∷ []))
unfolding last
met_end {c} {r} b e done = last_met r c b e
met_end b e (here m) = here (met_end b e m)
met_end b e (later m) = later (met_end b e m)

-- squares that end in b and visit a row also visit the row with b at its end
pub visits_end : (c : ℕ) (r gs : List ℕ) (b : ℕ) → last c r ≡ b → Visits (c ∷ r) gs → unmet c r (gs ++ (b ∷ [])) ≡ []
visits_end c r gs b e v = met_none r c (gs ++ (b ∷ [])) (met_end b e (visits_met gs c r v))

pub visits_front : (gs hs along : List ℕ) → Visits along (gs ++ hs) → Visits along gs
visits_front [] hs along v = tt
visits_front (g ∷ gs) hs along v = (v.0, v.1, v.2, visits_front gs hs (drop v.0 along) v.3)
