-- The numbers of each shuttle are looked at.
use Rattle.std.proofs.Common.{rules, ◌≡◌, ◌+◌, ◌*◌, ◌≤◌, length, refl, ◌∙◌, arith}
use Rattle.std.proofs.lemmas.Iterator.{YieldsList-from_range, serves_from_Range}
use Rattle.std.proofs.lemmas.Iterator.Search.{all_from_yields_List}
use Rattle.std.proofs.lemmas.Bool.{ne_eqb, eq-eqb}
use borrow.Author.Tests.{tests}
use Rattle.rules.specs.Memory.{shuttle_ok, memory_ok}
use Rattle.rules.specs.Tests.{every_to}
use Rattle.rules.proofs.Words.{every_to_range}
use Rattle.field.proofs.Facts.{facts}
use Rattle.memory.proofs.accepted.is_memory.Goals as goal

pub overflow_mul-count : goal.overflow_mul-count
overflow_mul-count c = let few = (facts c.args.field.now).few in omega arith

pub all-requires-clause-callable : goal.all-requires-clause-callable
all-requires-clause-callable c =
    let k = facts c.args.field.now in
    let wide = k.walls_long in
    let least = k.squares_least in
    serves_from_Range (λ x q r. search (rules, tests)) (λ x _ l. let there : 260 * x + 260 ≤ length c.args.memory.now = omega arith in search rules)

pub returns-then-memory-count : goal.returns-then-memory-count
unfolding memory_ok
returns-then-memory-count c =
    let n = length c.args.field.now.bays.now in
    let ok = shuttle_ok (length c.args.field.now.walls.now) c.args.memory.now in
    let all : c.all.result ≡ every_to ok n =
    all_from_yields_List ok _ _ _ c.all.ensures.ran (YieldsList-from_range 0 n n refl (omega arith)) (λ x b q k. search (rules, tests))
    ∙ every_to_range ok n in
    let long = eq-eqb _ _ c.if-memory-count.true in
    let wide = (facts c.args.field.now).walls_long in rw (long, ← wide) all

pub returns-else-memory-count : goal.returns-else-memory-count
unfolding memory_ok
returns-else-memory-count c = let other = ne_eqb _ _ c.if-memory-count.false in rw other
