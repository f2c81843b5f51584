-- The longest wait can count on exactly if each can.
use Rattle.std.proofs.Common.{refl, ltb, ap, ◌∙◌}
use Rattle.std.proofs.lemmas.Iterator.{YieldsList-from_slice}
use Rattle.std.proofs.lemmas.Iterator.Consumers.{YieldsList-from_copied, max_from_yields_List}
use Rattle.rules.proofs.Tests.{ltb_max}
use Rattle.rules.proofs.Words.{most_is}
use Rattle.tick.specs.Tick.{can_count}
use Rattle.tick.proofs.lent.are_waits.Goals as goal

pub returns : goal.returns
unfolding can_count
returns c =
    let most = max_from_yields_List _ _ c.max.ensures.ran (YieldsList-from_copied (YieldsList-from_slice c.args.waits.now cc)) in
    ap (λ x. ltb x 0xffff_ffff_ffff_ffff) c.unwrap_or.ensures
    ∙ most_is (λ w. ltb w 0xffff_ffff_ffff_ffff) (ltb_max 0xffff_ffff_ffff_ffff) refl c.max.result c.args.waits.now most
