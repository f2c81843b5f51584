-- What a tick does: arrivals, waits, the choice; and that it is a row of events.
use Rattle.std.proofs.Common.{◌≡◌, ℕ, zero, suc, ◌<◌, ◌≤◌, true, false, cond, ◌&&◌, eqb, ltb, ◌⊎◌, List, [], ◌∷◌, ◌++◌, length, get_or, set, sym, refl, ap, ◌∙◌, subst, inl, inr, ⊎_elim, arith}
use Rattle.std.proofs.lemmas.Bool.{both_ways, cases_Bool, cases_eq, cases_lt, and_parts, and_from, and_cases, or_cases, or_parts, or_left, and_left, cond-true, cond-false, lt-ltb, le-ltb, ltb-true, ltb-false, eqb-true, eq-eqb}
use Rattle.std.proofs.lemmas.List.{length-set, get_or-set_same, get_or-set_other}
use Rattle.std.proofs.lemmas.Bool.Decides.{nat_tests}
use Rattle.rules.specs.Field.{Field}
use Rattle.rules.specs.Shuttle.{Fleet, put, arrived}
use Rattle.rules.specs.Event.{Event, step, arrive, grants, arrives, does, who, becomes, happens, after}
use Rattle.agents.specs.Kinds.{put as with_agent}
use Rattle.agents.proofs.Fleets.{put_here, put_other}
use Rattle.promise.specs.Promise.{no_order, Drives, nothing, then}
use Rattle.promise.proofs.GoingOn.{not_done}
use Rattle.turns.specs.Tick.{is_due, come, come_to, all_come, waits, one_more, counted_to, counted, better, chosen_to}
use Rattle.turns.specs.Tick.{chosen, granted_to, choose, tick}
use Rattle.turns.specs.Rows.{due_arrival, due_arrivals, TicksAreRows, DueCome, WaitsCount, LongestFirst}

-- an arrival of one that does not move changes nothing, and of one that moves only that one
pub arrive_makes : (f : Field) (g : Fleet) (i : ℕ) → i < f.shuttles → (j : ℕ) →
    ((j ≡ i) × ((g i).moving ≡ true) × (happens f g (arrive i) j ≡ arrived (g i))) ⊎
    ((j ≡ i → (g i).moving ≡ false) × (happens f g (arrive i) j ≡ g j))
unfolding happens does who becomes arrives put with_agent
arrive_makes f g i l j =
    let h = lt-ltb i f.shuttles l in
    ⊎_elim
    (λ (m : (g i).moving ≡ true).
    let e : happens f g (arrive i) ≡ put g i (arrived (g i)) = cond-true _ _ g (and_from _ _ h m) in
    ⊎_elim
    (λ (q : j ≡ i). inl (q, m, ap (λ x. x j) e ∙ ap (put g i (arrived (g i))) q ∙ put_here g i (arrived (g i))))
    (λ ne. inr (λ q. absurd (ne q), ap (λ x. x j) e ∙ put_other g i (arrived (g i)) j ne)) (cases_eq j i))
    (λ (m : (g i).moving ≡ false). inr (
      λ _. m,
      ap (λ x. x j) (cond-false (ltb i f.shuttles && (g i).moving) (put g i (arrived (g i))) g
          (grind (arith, nat_tests))),
    ))
    (cases_Bool (g i).moving)

module _ (f : Field) (g : Fleet) (marks : List ℕ) where
  -- of the first k those that are due and move have come, and all others are as they were
  comes : (k : ℕ) → k ≤ f.shuttles → (i : ℕ) →
      ((i < k) × (is_due marks i ≡ true) × ((g i).moving ≡ true) × (come_to f g marks k i ≡ arrived (g i))) ⊎
      ((i < k → (is_due marks i && (g i).moving) ≡ false) × (come_to f g marks k i ≡ g i))
  unfolding come_to come
  comes zero l i = inr (λ b. absurd (omega arith), refl)
  comes (suc k) l i =
      let h = come_to f g marks k in
      let before = comes k (omega arith) in
      let here : h k ≡ g k = ⊎_elim
      (λ (t : (k < k) × (is_due marks k ≡ true) × ((g k).moving ≡ true) × (h k ≡ arrived (g k))). absurd (omega arith))
      (λ (t : (k < k → (is_due marks k && (g k).moving) ≡ false) × (h k ≡ g k)). t.1) (before k) in
      ⊎_elim
      (λ (d : is_due marks k ≡ true).
      let e : come_to f g marks (suc k) ≡ happens f h (arrive k) = cond-true _ _ h d in
      ⊎_elim
      (λ (t : (i ≡ k) × ((h k).moving ≡ true) × (happens f h (arrive k) i ≡ arrived (h k))).
      inl (
        omega arith,
        subst (λ x. is_due marks x ≡ true) (sym t.0) d,
        subst (λ x. (g x).moving ≡ true) (sym t.0) (ap (λ s. s.moving) (sym here) ∙ t.1),
        ap (λ x. x i) e ∙ t.2 ∙ ap arrived (here ∙ ap g (sym t.0)),
      ))
      (λ (t : (i ≡ k → (h k).moving ≡ false) × (happens f h (arrive k) i ≡ h i)). ⊎_elim
      (λ (b : (i < k) × (is_due marks i ≡ true) × ((g i).moving ≡ true) × (h i ≡ arrived (g i))).
      inl (omega arith, b.1, b.2, ap (λ x. x i) e ∙ t.1 ∙ b.3))
      (λ (b : (i < k → (is_due marks i && (g i).moving) ≡ false) × (h i ≡ g i)).
      inr (
        λ a. ⊎_elim b.0 (λ (o : k ≤ i). let q : i ≡ k = omega arith in let m = t.0 q in
            let m' : (g i).moving ≡ false = ap (λ x. (g x).moving) q ∙ ap (λ s. s.moving) (sym here) ∙ m in grind (arith, nat_tests))
            (cases_lt i k),
        ap (λ x. x i) e ∙ t.1 ∙ b.1,
      ))
      (before i))
      (arrive_makes f h k l i))
      (λ (d : is_due marks k ≡ false).
      let e : come_to f g marks (suc k) ≡ h = cond-false _ (happens f h (arrive k)) h d in
      ⊎_elim
      (λ (b : (i < k) × (is_due marks i ≡ true) × ((g i).moving ≡ true) × (h i ≡ arrived (g i))). inl
      (omega arith, b.1, b.2, ap (λ x. x i) e ∙ b.3))
      (λ (b : (i < k → (is_due marks i && (g i).moving) ≡ false) × (h i ≡ g i)).
      inr (
        λ a. ⊎_elim b.0 (λ (o : k ≤ i). let q : i ≡ k = omega arith in
            let d' : is_due marks i ≡ false = ap (is_due marks) q ∙ d in grind (arith, nat_tests)) (cases_lt i k),
        ap (λ x. x i) e ∙ b.1,
      ))
      (before i))
      (cases_Bool (is_due marks k))

pub due_come : DueCome
unfolding all_come
due_come f g marks i l = ⊎_elim
    (λ (t : (i < f.shuttles) × (is_due marks i ≡ true) × ((g i).moving ≡ true) × (all_come f g marks i ≡ arrived (g i))). inl
    (t.1, t.2, t.3))
    (λ (t : (i < f.shuttles → (is_due marks i && (g i).moving) ≡ false) × (all_come f g marks i ≡ g i)). inr (t.0 l, t.1))
    (comes f g marks f.shuttles (omega arith) i)

-- counting
pub counted_length : (g : Fleet) (ws : List ℕ) (k : ℕ) → length (counted_to g ws k) ≡ length ws
unfolding counted_to
counted_length g ws zero = refl
counted_length g ws (suc k) = length-set _ _ _ ∙ counted_length g ws k

counts : (g : Fleet) (ws : List ℕ) (k : ℕ) → k ≤ length ws → (i : ℕ) →
    get_or (counted_to g ws k) i 0 ≡ cond (ltb i k) (one_more (g i) (get_or ws i 0)) (get_or ws i 0)
unfolding counted_to
counts g ws zero l i = grind (arith, nat_tests)
counts g ws (suc k) l i =
    let before : get_or (counted_to g ws k) i 0 ≡ cond (ltb i k) (one_more (g i) (get_or ws i 0)) (get_or ws i 0) = counts g ws k (omega arith) i in
    let len = counted_length g ws k in
    ⊎_elim
    (λ (e : i ≡ k).
    subst (λ x. get_or (set (counted_to g ws k) k (one_more (g k) (get_or ws k 0))) x 0 ≡
    cond (ltb x (suc k)) (one_more (g x) (get_or ws x 0)) (get_or ws x 0)) (sym e)
    (get_or-set_same (counted_to g ws k) k (one_more (g k) (get_or ws k 0)) 0 (omega arith) ∙
    sym (cond-true (ltb k (suc k)) _ (get_or ws k 0) (lt-ltb k (suc k) (omega arith)))))
    (λ ne. get_or-set_other (counted_to g ws k) k i (one_more (g k) (get_or ws k 0)) 0 ne ∙ before ∙ grind (arith, nat_tests))
    (cases_eq i k)

pub counts_all : (f : Field) (g : Fleet) (ws : List ℕ) (i : ℕ) → i < f.shuttles → f.shuttles ≤ length ws →
    get_or (counted f g ws) i 0 ≡ one_more (g i) (get_or ws i 0)
unfolding counted
counts_all f g ws i l h = counts g ws f.shuttles h i ∙ cond-true _ _ (get_or ws i 0) (lt-ltb i f.shuttles l)

pub waits_count : WaitsCount
unfolding one_more
waits_count f g ws i l h =
    let e = counts_all f g ws i l h in
    ⊎_elim (λ (a : waits (g i) ≡ true). inl (a, e ∙ cond-true _ _ 0 a))
    (λ (a : waits (g i) ≡ false). inr (a, e ∙ cond-false _ (suc (get_or ws i 0)) 0 a))
    (cases_Bool (waits (g i)))

-- the choice, among the first k
pub record Best (f : Field) (g : Fleet) (ws : List ℕ) (k b : ℕ) : Type 0 where
  pub below : b < k
  pub granted : grants f g b ≡ true
  pub longest : (i : ℕ) → i < k → grants f g i ≡ true → (get_or ws i 0 < get_or ws b 0) ⊎ ((get_or ws i 0 ≡ get_or ws b 0) × (b ≤ i))

chooses : (f : Field) (g : Fleet) (ws : List ℕ) (k : ℕ) → k ≤ f.shuttles →
    Best f g ws k (chosen_to f g ws k) ⊎ ((chosen_to f g ws k ≡ f.shuttles) × ((i : ℕ) → i < k → grants f g i ≡ false))
unfolding chosen_to better
chooses f g ws zero l = inr (refl, λ i b. absurd (omega arith))
chooses f g ws (suc k) l = on (chosen_to f g ws k) refl (chooses f g ws k (omega arith))
  where
    n : ℕ
    n = f.shuttles

    split : (i : ℕ) → i < suc k → (i < k) ⊎ (i ≡ k)
    split i a = ⊎_elim inl (λ o. inr (omega arith)) (cases_lt i k)

    on : (b : ℕ) → chosen_to f g ws k ≡ b → Best f g ws k b ⊎ ((b ≡ n) × ((i : ℕ) → i < k → grants f g i ≡ false)) →
        Best f g ws (suc k) (cond (better f g ws b k) k b) ⊎
        ((cond (better f g ws b k) k b ≡ n) × ((i : ℕ) → i < suc k → grants f g i ≡ false))
    on b _ (inl t) = ⊎_elim
        (λ (e : better f g ws b k ≡ true).
        let (a, o) = and_parts _ _ e in
        let more : get_or ws b 0 < get_or ws k 0 = ⊎_elim (λ q. let z = eqb-true b n q in let u = t.below in absurd (omega arith))
        (λ q. ltb-true _ _ q) (or_cases _ _ o) in
        inl (subst (Best f g ws (suc k)) (sym (cond-true _ k b e)) (record {
          below = omega arith;
          granted = a;
          longest = λ i c h. ⊎_elim (λ d. inl (let q = t.longest i d h in omega arith))
              (λ (d : i ≡ k). inr (ap (λ x. get_or ws x 0) d, omega arith)) (split i c);
        })))
        (λ (e : better f g ws b k ≡ false).
        inl (subst (Best f g ws (suc k)) (sym (cond-false _ k b e)) (record {
          below = let u = t.below in omega arith;
          granted = t.granted;
          longest = λ i c h. ⊎_elim (λ d. t.longest i d h)
              (λ (d : i ≡ k).
              let g' : grants f g k ≡ true = subst (λ x. grants f g x ≡ true) d h in
              let w : get_or ws i 0 ≡ get_or ws k 0 = ap (λ x. get_or ws x 0) d in
              let o : get_or ws k 0 ≤ get_or ws b 0 = ltb-false (get_or ws b 0) (get_or ws k 0)
              (⊎_elim (λ z. absurd (both_ways (grants f g k) z g')) (λ z. (or_parts (eqb b n) _ z).1) (and_cases (grants f g k) _ e)) in
              let u = t.below in
              ⊎_elim (λ y. inl y) (λ (y : get_or ws b 0 ≤ get_or ws i 0). inr (omega arith, omega arith))
              (cases_lt (get_or ws i 0) (get_or ws b 0))) (split i c);
        })))
        (cases_Bool (better f g ws b k))
    on b _ (inr t) = ⊎_elim
        (λ (e : grants f g k ≡ true).
        let e' : better f g ws b k ≡ true = and_from _ _ e (or_left _ _ (eq-eqb b n t.0)) in
        inl (subst (Best f g ws (suc k)) (sym (cond-true _ k b e')) (record {
          below = omega arith;
          granted = e;
          longest = λ i c h. ⊎_elim (λ d. absurd (both_ways _ (t.1 i d) h))
              (λ (d : i ≡ k). inr (ap (λ x. get_or ws x 0) d, omega arith)) (split i c);
        })))
        (λ (e : grants f g k ≡ false).
        let e' : better f g ws b k ≡ false = and_left _ _ e in
        inr (
          cond-false _ k b e' ∙ t.0,
          λ i c. ⊎_elim (λ d. t.1 i d) (λ (d : i ≡ k). subst (λ x. grants f g x ≡ false) (sym d) e)
              (split i c),
        ))
        (cases_Bool (grants f g k))

-- the choice among all
pub choice : (f : Field) (g : Fleet) (ws : List ℕ) →
    Best f g ws f.shuttles (chosen f g ws) ⊎ ((chosen f g ws ≡ f.shuttles) × ((i : ℕ) → i < f.shuttles → grants f g i ≡ false))
unfolding chosen
choice f g ws = chooses f g ws f.shuttles (omega arith)

pub longest_first : LongestFirst
longest_first f g ws = ⊎_elim (λ (t : Best f g ws f.shuttles (chosen f g ws)). inl (t.below, t.granted, t.longest)) inr (choice f g ws)

-- an event that does not happen changes nothing
-- the arrivals of a tick are a row
pub record ComeRow (f : Field) (es : List Event) (marks : List ℕ) (g : Fleet) : Type 0 where
  pub ds : List Event
  pub due : due_arrivals marks ds ≡ true
  pub drives : Drives f es ds
  pub same : g ≡ after f (ds ++ es)

pub come_row : (f : Field) (es : List Event) (marks : List ℕ) (k : ℕ) → k ≤ f.shuttles → ComeRow f es marks (come_to f (after f es) marks k)
unfolding come_to come due_arrivals due_arrival after no_order
come_row f es marks zero l = record { ds = []; due = refl; drives = nothing; same = refl }
come_row f es marks (suc k) l = on (come_row f es marks k (omega arith))
  where
    h : Fleet
    h = come_to f (after f es) marks k

    on : ComeRow f es marks h → ComeRow f es marks (come f marks k h)
    on t = ⊎_elim
        (λ (d : is_due marks k ≡ true).
        let e : come f marks k h ≡ happens f h (arrive k) = cond-true _ _ h d in
        ⊎_elim
        (λ (a : does f h (arrive k) ≡ true).
        record {
          ds = arrive k ∷ t.ds;
          due = and_from _ _ d t.due;
          drives = then (arrive k) t.ds refl (subst (λ x. does f x (arrive k) ≡ true) t.same a) t.drives;
          same = e ∙ ap (λ x. happens f x (arrive k)) t.same;
        })
        (λ (a : does f h (arrive k) ≡ false).
        record { ds = t.ds; due = t.due; drives = t.drives; same = e ∙ not_done f h (arrive k) a ∙ t.same })
        (cases_Bool (does f h (arrive k))))
        (λ (d : is_due marks k ≡ false).
        record { ds = t.ds; due = t.due; drives = t.drives; same = cond-false _ (happens f h (arrive k)) h d ∙ t.same })
        (cases_Bool (is_due marks k))

-- a step of nobody is not granted
pub none_granted : (f : Field) (g : Fleet) (i : ℕ) → f.shuttles ≤ i → grants f g i ≡ false
unfolding grants
none_granted f g i l = and_left _ _ (le-ltb i f.shuttles l)

pub ticks_are_rows : TicksAreRows
unfolding tick choose granted_to all_come after does
ticks_are_rows f es ws marks =
    let t = come_row f es marks f.shuttles (omega arith) in
    let h = all_come f (after f es) marks in
    let vs = counted f h ws in
    record {
      ds = t.ds;
      due = t.due;
      drives = t.drives;
      come = t.same;
      then = ⊎_elim
          (λ (b : Best f h vs f.shuttles (chosen f h vs)).
          inl (
            b.below,
            subst (λ x. grants f x (chosen f h vs) ≡ true) t.same b.granted,
            ap
                (λ x. happens f x (step (chosen f h vs))) t.same,
          ))
          (λ (b : (chosen f h vs ≡ f.shuttles) × ((i : ℕ) → i < f.shuttles → grants f h i ≡ false)).
          inr (
            b.0,
            λ i l. subst (λ x. grants f x i ≡ false) t.same (b.1 i l),
            not_done f h (step (chosen f h vs)) (none_granted f h (chosen f h vs) (let e = b.0 in omega arith)) ∙ t.same,
          ))
          (choice f h vs);
    }
