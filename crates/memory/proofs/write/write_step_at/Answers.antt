-- The part that was lent on has lost its first square.
use Rattle.std.proofs.Common.{◌≡◌, ◌+◌, ◌-◌, ◌++◌, length, get_or, take, drop, ap, ◌∙◌, arith}
use Rattle.std.specs.List.{copy_within}
use borrow.Rule.Slice.PartMut.{Post-is}
use Rattle.memory.proofs.Written.{step_at_is}
use Rattle.memory.proofs.write.write_step_at.Goals as goal

pub returns : goal.returns
returns c = λ i e.
    let m = c.args.memory.now in
    let h = c.write_head_at.new.memory in
    let a = c.args.place + 4 in
    let left = get_or m (c.args.place + 3) 0 in
    let count : a + left - a ≡ left = omega arith in
    let is = c.copy_within.ensures.after ∙ ap (λ k. let xs = take k (drop a h) in copy_within xs 1 (length xs) 0) count in
    ap (λ t. take a h ++ (c.copy_within.new.self ++ t)) (Post-is a (a + left) h (omega arith))
    ∙ step_at_is m i c.args.place e c.requires.there c.requires.room c.requires.some h c.copy_within.new.self c.write_head_at.ensures is
