-- A tick is a row of calls that happen: arrivals that are due, then at most one step. So memory stays reached.
use Rattle.std.proofs.Common.{◌≡◌, ℕ, zero, suc, ◌<◌, ◌≤◌, true, false, List, [], length, sym, refl, subst, inl, ⊎_elim, arith, lit≤}
use Rattle.std.proofs.lemmas.Bool.{cases_Bool}
use Rattle.rules.specs.Tests.{every}
use Rattle.rules.specs.Event.{Event, arrive, does}
use Rattle.rules.specs.Memory.{FieldNumbers, field_in, field_ok, memory_ok, event_in, shuttle_in}
use Rattle.calls.specs.Call.{Says, more, IsDone, Driven, here, on, Reached}
use Rattle.calls.proofs.Refusal.{none_refusal, event_none}
use Rattle.turns.specs.Tick.{is_due}
use Rattle.tick.specs.Tick.{called, come_in, Arrived, none, one_more, CalledRow}
use Rattle.tick.proofs.Coming.{called_is, called_not, come_due, come_not, come_holds}

module _ (lent : FieldNumbers) where
  -- calls of steps and arrivals that happen lead from reached memory to reached memory
  pub driven_reached : (m m₁ : List ℕ) → Driven lent m m₁ → Reached lent m → Reached lent m₁
  driven_reached m m₁ here r = r
  driven_reached m m₁ (on m₀ m₂ kind i before low done says) r =
      let was = driven_reached m m₀ before r in (_, more was.0 m₀ m₂ kind i [] 0 was.1 done.0 says)

  module _ (marks m : List ℕ) where
    arrived_driven : (m₁ : List ℕ) → Arrived lent marks m m₁ → Driven lent m m₁
    arrived_driven m₁ none = here
    arrived_driven m₁ (one_more m₀ m₂ i before due done says) = on m₀ m₂ 2 i (arrived_driven m₀ before) (lit≤ tt) done says

    -- and so does a row
    pub row_driven : (whose : ℕ) (m₁ : List ℕ) → CalledRow lent marks m whose m₁ → Driven lent m m₁
    row_driven whose m₁ r =
        let before = arrived_driven r.between r.arrivals in
        ⊎_elim (λ h. on r.between m₁ 1 whose before (lit≤ tt) h.1 h.2) (λ h. subst (Driven lent m) (sym h.2) before) r.then

  module _ (field : field_ok lent ≡ true) where
    -- the call of an event that happens is answered: it happened
    pub call_done : (m : List ℕ) (kind i : ℕ) → memory_ok lent m ≡ true → kind ≤ 2 → i < length lent.bays
        → does (field_in lent) (shuttle_in m) (event_in kind i []) ≡ true → IsDone lent m kind i []
    unfolding every
    call_done m kind i ok k l h = (none_refusal lent m kind i [] field ok (event_none lent field kind i [] k l (lit≤ tt) refl), h)

    -- and says what it leaves
    pub call_says : (m : List ℕ) (e : Event) → does (field_in lent) (shuttle_in m) e ≡ true
        → Says 0 (field_in lent) m e 0 (called (field_in lent) m e)
    unfolding Says
    call_says m e h = inl (refl, h, called_is lent m e h)

    -- the arrivals of a tick
    pub come_arrived : (marks m : List ℕ) → memory_ok lent m ≡ true → (k : ℕ) → k ≤ length lent.bays
        → Arrived lent marks m (come_in (field_in lent) m marks k)
    unfolding come_in event_in
    come_arrived marks m ok zero l = none
    come_arrived marks m ok (suc k) l =
        let f = field_in lent in
        let mk = come_in f m marks k in
        let was : Arrived lent marks m mk = come_arrived marks m ok k (omega arith) in
        let good = (come_holds lent m marks ok k).0 in
        ⊎_elim
        (λ (due : is_due marks k ≡ true).
        subst (Arrived lent marks m) (sym (come_due lent m marks k due))
        (⊎_elim
        (λ h. one_more mk (called f mk (arrive k)) k was due (call_done mk 2 k good (lit≤ tt) (omega arith) h) (call_says mk (arrive k) h))
        (λ h. subst (Arrived lent marks m) (sym (called_not lent mk (arrive k) h)) was)
        (cases_Bool (does f (shuttle_in mk) (arrive k)))))
        (λ (due : is_due marks k ≡ false). subst (Arrived lent marks m) (sym (come_not lent m marks k due)) was)
        (cases_Bool (is_due marks k))
