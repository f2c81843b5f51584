-- A field has at least one column.
use Rattle.field.proofs.Facts.{facts}
use Rattle.field.proofs.field.Field.column.Goals as goal

pub nonzero_rem-result : goal.nonzero_rem-result
nonzero_rem-result c = (facts c.args.self.now).across_least
