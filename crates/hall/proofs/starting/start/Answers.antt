-- One shuttle more is written at home; at the end all are.
use Rattle.std.proofs.Common.{◌≡◌, ◌+◌, ◌*◌, ◌≤◌, length, get_or, sym, refl, ap, ◌∙◌, add-one, arith, lit≤}
use Rattle.std.proofs.lemmas.Result.{err_from_is_err_and}
use Rattle.rules.specs.Shuttle.{at_home}
use Rattle.rules.specs.Memory.{field_numbers, field_in, stored, started}
use Rattle.rules.proofs.Stored.{stored_length}
use Rattle.field.proofs.Facts.{facts}
use Rattle.hall.proofs.Started.{no_field, no_memory, both, start_refused, start_done}
use Rattle.hall.proofs.starting.start.Goals as goal

pub returns-in_err-field : goal.returns-in_err-field
returns-in_err-field c =
    let a = c.args in
    let lent = field_numbers a.across a.down a.walls.now a.bays.now in
    let p = err_from_is_err_and c.from_residual.result c.from_residual.ensures.1 in
    let why = no_field lent a.memory.now c.in_err-field.ensures.1 in
    rw (p.1, p.2, c.in_err-field.ensures.0) (record { answered = start_refused lent a.memory.now 0 why; refuses = sym why })

pub overflow_mul-field : goal.overflow_mul-field
overflow_mul-field c = let few = (facts c.in_ok-field.field).few in omega arith

pub returns-then-memory-field : goal.returns-then-memory-field
returns-then-memory-field c =
    let a = c.args in
    let lent = field_numbers a.across a.down a.walls.now a.bays.now in
    let is = c.in_ok-field.ensures in
    let count = ap (λ t. length t.bays) is in
    let why = no_memory lent a.memory.now (rw is at c.in_ok-field.field.accepted) (λ e. c.if-memory-field.true (omega arith)) in
    record { answered = start_refused lent a.memory.now 1 why; refuses = sym why }

pub loop-i-init : goal.loop-i-init
unfolding started
loop-i-init c = let count = ap (λ t. length t.bays) c.in_ok-field.ensures in (refl, omega arith)

pub write_home-requires : goal.write_home-requires
write_home-requires c =
    let count = ap (λ t. length t.bays) c.in_ok-field.ensures in
    let long = c.loop-i.invariant.1 in omega arith

pub loop-i-preserved : goal.loop-i-preserved
unfolding started field_in at_home
loop-i-preserved c =
    let a = c.args in
    let f = field_in (field_numbers a.across a.down a.walls.now a.bays.now) in
    let i = c.loop-i.i in
    let count = ap (λ t. length t.bays) c.in_ok-field.ensures in
    let long = c.loop-i.invariant.1 in
    let there : 260 * i + 260 ≤ length c.loop-i.memory = omega arith in
    let home = c.write_home.ensures f (ap (λ t. get_or t.bays i 0) (sym c.in_ok-field.ensures)) in (
      home ∙ ap (λ t. stored t i (at_home f i)) c.loop-i.invariant.0 ∙ ap (λ k. started f k a.memory.now) (sym (add-one i)),
      ap length home ∙ stored_length c.loop-i.memory i (at_home f i) there (lit≤ tt) ∙ long,
    )

pub returns : goal.returns
returns c =
    let a = c.args in
    let lent = field_numbers a.across a.down a.walls.now a.bays.now in
    let count = ap (λ t. length t.bays) c.in_ok-field.ensures in
    let ok = rw c.in_ok-field.ensures at c.in_ok-field.field.accepted in
    let long : length a.memory.now ≡ 260 * length a.bays.now = omega arith in
    let all : c.loop-i.i ≡ length a.bays.now = omega arith in
    let is = c.loop-i.invariant.0 ∙ ap (λ k. started (field_in lent) k a.memory.now) all in
    record { answered = start_done lent a.memory.now ok long c.loop-i.memory is; refuses = sym (both lent a.memory.now ok long) }
