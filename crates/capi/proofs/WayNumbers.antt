-- The answer of the way, as a number, is small.
use Rattle.std.proofs.Common.{Some, None, Ok, Err, Option, Result, ℕ, ◌<◌, ◌≤◌, List, arith}
use Rattle.std.proofs.lemmas.Bool.Decides.{nat_tests}
use Rattle.rules.specs.Field.{Field}
use Rattle.rules.specs.Memory.{FieldNumbers}
use Rattle.field.specs.declared.refusal.Refusal.{Refusal}
use Rattle.ways.specs.Asked.{way_refusal}
use Rattle.way.specs.Answer.{Answers}
use Rattle.capi.specs.Numbers.{number}

refusal_most : (lent : FieldNumbers) (i c : ℕ) (row : List ℕ) (places : ℕ) → way_refusal lent i c row places ≤ 5
unfolding way_refusal
refusal_most lent i c row places = grind (arith, nat_tests)

-- a route that is found has at most 256 squares, and a refusal is at most 5
pub way_small : (lent : FieldNumbers) (i c : ℕ) (row : List ℕ) (places : ℕ) (f : Field) (before after : List ℕ) (w : Result (Option ℕ) Refusal)
    → Answers f i c row (way_refusal lent i c row places) before after w → number 2 w < 131072
way_small lent i c row places f before after (Ok (Some k)) s =
    let short = s.1.2.through.short in let long = s.1.1 in omega arith
way_small lent i c row places f before after (Ok None) s = omega arith
way_small lent i c row places f before after (Err r) s =
    let most = refusal_most lent i c row places in let is = s.0 in omega arith
