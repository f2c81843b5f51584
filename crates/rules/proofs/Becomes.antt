-- What an event makes of a shuttle that fits its field fits it too.
use Rattle.std.proofs.Common.{◌≡◌, ℕ, ◌*◌, ◌<◌, true, ltb, List, [], ◌∷◌, length, refl, ap, arith}
use Rattle.std.proofs.lemmas.Bool.{and_parts, and_from, ltb-true}
use Rattle.std.proofs.lemmas.Bool.Decides.{nat_tests}
use Rattle.rules.specs.Tests.{every}
use Rattle.rules.specs.Field.{Field, free_square}
use Rattle.rules.specs.Route.{step_ok, route_ok}
use Rattle.rules.specs.Shuttle.{Shuttle, Fleet, ordered, stepped, stepped_to, arrived}
use Rattle.rules.specs.Event.{Event, order, step, arrive, takes, grants, arrives, does, who, becomes}
use Rattle.rules.proofs.Memory.{Fits}

-- the squares of a route are squares of the field
pub route_squares : (f : Field) (i c : ℕ) (r : List ℕ) → route_ok f i c r ≡ true → every (λ x. ltb x (f.across * f.down)) r ≡ true
unfolding route_ok step_ok free_square every
route_squares f i c [] h = refl
route_squares f i c (d ∷ ds) h =
    let both = and_parts _ _ h in
    and_from _ _ (and_parts _ _ (and_parts _ _ (and_parts _ _ both.0).1).0).0 (route_squares f i d ds both.1)

-- on its way to the next square it fits as before
pub stepped_fits : (squares : ℕ) (s : Shuttle) (r : List ℕ) → s.route ≡ r → Fits squares s → Fits squares (stepped_to s r)
unfolding stepped_to every
stepped_fits squares s [] e h = h
stepped_fits squares s (c ∷ cs) e h =
    let over = and_parts _ _ (rw e at h.over) in
    record { short = omega (arith, h.short, ap length e); on = ltb-true _ _ over.0; from = h.on; over = over.1 }

-- an event that happens is one of a shuttle that is there
pub does_there : (f : Field) (g : Fleet) (e : Event) → does f g e ≡ true → who e < f.shuttles
unfolding does takes grants arrives who
does_there f g (order i r) h = grind (arith, nat_tests)
does_there f g (step i) h = grind (arith, nat_tests)
does_there f g (arrive i) h = grind (arith, nat_tests)

-- what an event that happens makes of a shuttle that fits
pub becomes_fits : (f : Field) (g : Fleet) (e : Event) → does f g e ≡ true → Fits (f.across * f.down) (g (who e))
    → Fits (f.across * f.down) (becomes e (g (who e)))
unfolding does takes who becomes ordered stepped arrived
becomes_fits f g (order i r) h fits =
    let good : route_ok f i (g i).at r ≡ true = grind (arith, nat_tests) in
    record { short = grind (arith, nat_tests); on = fits.on; from = fits.on; over = route_squares f i (g i).at r good }
becomes_fits f g (step i) h fits = stepped_fits _ (g i) (g i).route refl fits
becomes_fits f g (arrive i) h fits = record { short = fits.short; on = fits.on; from = fits.on; over = fits.over }
