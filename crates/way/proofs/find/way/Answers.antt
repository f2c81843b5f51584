-- What is turned away has its number; the way that was led is the first of the shortest, and is written to the front of the route.
use Rattle.std.proofs.Common.{rules, Err, ◌≡◌, ℕ, ◌<◌, ◌≤◌, List, [], ◌∷◌, ◌++◌, length, get_or, drop, sym, refl, ap, ◌∙◌, arith}
use Rattle.std.proofs.lemmas.List.{length-take-le}
use Rattle.rules.specs.Field.{Field}
use Rattle.rules.specs.Memory.{field_in}
use Rattle.ways.specs.Good.{Good, Best, Ends}
use Rattle.ways.specs.Shortest.{Shortest}
use Rattle.ways.proofs.Led.{shortest_from_best, nowhere_from_far, ends_push}
use Rattle.ways.proofs.Asked.{refused_field, refused_shuttle, refused_asked, refused_not, asked_tells}
use Rattle.way.proofs.Size.{bay_free, free_below}
use Rattle.field.specs.Model.{field_of}
use Rattle.field.specs.declared.field.Field.{Field as Lent}
use Rattle.field.specs.declared.refusal.Refusal.TheVariants as Refusal
use Rattle.way.proofs.find.way.Goals as goal

-- it is turned away by number m
turned : (m n : ℕ) (before : List ℕ) → n ≡ m → 0 < m → (m ≡ n) × (0 < n) × (before ≡ before)
turned m n before e l = (sym e, omega arith, refl)

-- the front of the route after the copy
copied : (f : Field) (i from k : ℕ) (row made self before : List ℕ) → Best f i from (row ++ (f.bay i ∷ [])) made → k ≡ length made → k ≤ 256 → self ≡ made
    → (r : List ℕ) × (length r ≡ k) × Shortest f i from row r × (self ++ drop k before ≡ r ++ drop k before)
copied f i from k row made self before b l few e =
    (made, sym l, shortest_from_best f i from row made b (omega (arith, l)), ap (λ (x : List ℕ). x ++ drop k before) e)

-- a row that ends in the bay of a shuttle ends at home
home : (f : Lent) (i : ℕ) (row : List ℕ) → Ends ((field_of f).bay i) (row ++ (get_or f.bays.now i 0 ∷ []))
unfolding field_in
home f i row = ends_push (get_or f.bays.now i 0) row

to_home : (f : Lent) (i : ℕ) (P : List ℕ → Type 0) (row : List ℕ) → P (row ++ (get_or f.bays.now i 0 ∷ [])) → P (row ++ ((field_of f).bay i ∷ []))
unfolding field_in
to_home f i P row h = h

pub returns-in_err-field : goal.returns-in_err-field
returns-in_err-field c =
    let is : c.from_residual.result ≡ Err Refusal.Field = search rules in
    rw is (turned 1 _ c.args.route.now (refused_field _ _ _ _ _ c.in_err-field.ensures.1) (omega arith))

pub returns-then-shuttle-field : goal.returns-then-shuttle-field
returns-then-shuttle-field c =
    rw (← c.in_ok-field.ensures)
    (turned 3 _ c.args.route.now (refused_shuttle _ _ _ _ _ c.in_ok-field.field.accepted (omega (arith, c.if-shuttle-field.true))) (omega arith))

pub returns-then-not-is_asked : goal.returns-then-not-is_asked
returns-then-not-is_asked c =
    rw (← c.in_ok-field.ensures)
    (turned 5 _ c.args.route.now
    (refused_asked _ _ _ _ _ c.in_ok-field.field.accepted (omega (arith, c.if-shuttle-field.false)) (sym c.if-not-is_asked.ensures)) (omega arith))

pub through-requires : goal.through-requires
unfolding field_in
through-requires c =
    let a = asked_tells _ _ _ _ _ (sym c.if-not-is_asked.ensures) in
    let f = c.in_ok-field.field in
    record {
      few = a.few;
      start = free_below f c.args.from a.free;
      end = free_below f (get_or c.in_ok-field.field.bays.now c.args.shuttle 0) (bay_free f c.args.shuttle (omega (arith, c.if-shuttle-field.false)));
      inside = a.inside;
    }

pub returns-in_default : goal.returns-in_default
returns-in_default c = rw (← c.in_ok-field.ensures) (
  refused_not _ _ _ _ _ c.in_ok-field.field.accepted (omega (arith, c.if-shuttle-field.false)) (sym c.if-not-is_asked.ensures),
  nowhere_from_far _ c.args.shuttle c.args.from c.args.row.now
      (to_home c.in_ok-field.field c.args.shuttle
      (λ row. (r : List ℕ) → Good (field_of c.in_ok-field.field) c.args.shuttle c.args.from row r → 256 < length r) c.args.row.now
      (c.in_default.ensures c.args.shuttle (home c.in_ok-field.field c.args.shuttle c.args.row.now))),
  refl,
)

pub slice_bounds-copy_from_slice-end : goal.slice_bounds-copy_from_slice-end
slice_bounds-copy_from_slice-end c = omega (arith, (asked_tells _ _ _ _ _ (sym c.if-not-is_asked.ensures)).places, c.len-squares.ensures.fits)

pub slice_bounds-copy_from_slice-end-2 : goal.slice_bounds-copy_from_slice-end-2
slice_bounds-copy_from_slice-end-2 c =
    sym (length-take-le c.len-squares.result c.args.route.now (omega (arith, (asked_tells _ _ _ _ _ (sym c.if-not-is_asked.ensures)).places, c.len-squares.ensures.fits)))

pub copy_from_slice-requires : goal.copy_from_slice-requires
copy_from_slice-requires c =
    length-take-le c.len-squares.result c.args.route.now (omega (arith, (asked_tells _ _ _ _ _ (sym c.if-not-is_asked.ensures)).places, c.len-squares.ensures.fits))
    ∙ (c.len-squares.ensures.value ∙ ap length (sym c.as_slice.ensures.value))

pub returns : goal.returns
returns c = rw (← c.in_ok-field.ensures) (
  refused_not _ _ _ _ _ c.in_ok-field.field.accepted (omega (arith, c.if-shuttle-field.false)) (sym c.if-not-is_asked.ensures),
  copied _ c.args.shuttle c.args.from c.len-squares.result c.args.row.now c.in-Some.made.items _ c.args.route.now
      (to_home c.in_ok-field.field c.args.shuttle (λ row. Best (field_of c.in_ok-field.field) c.args.shuttle c.args.from row c.in-Some.made.items) c.args.row.now
      (c.in-Some.ensures c.args.shuttle (home c.in_ok-field.field c.args.shuttle c.args.row.now)))
      c.len-squares.ensures.value c.len-squares.ensures.fits
      (c.copy_from_slice.ensures.after ∙ c.as_slice.ensures.value),
)
