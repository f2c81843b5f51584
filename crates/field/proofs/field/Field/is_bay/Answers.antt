-- The bays that are looked through are all of the field's.
use Rattle.std.proofs.Common.{eqb, ◌∙◌}
use Rattle.rules.specs.Field.{is_bay, is_bay_to}
use Rattle.rules.specs.Memory.{field_in}
use Rattle.rules.proofs.Words.{any_to_is}
use Rattle.field.proofs.field.Field.is_bay.Goals as goal

pub returns : goal.returns
unfolding is_bay is_bay_to field_in
returns c = c.contains.ensures.value ∙ any_to_is (λ y. eqb y c.args.square) c.args.self.now.bays.now
