-- A field has at least one column.
use Rattle.field.proofs.Facts.{facts}
use Rattle.field.proofs.field.Field.row.Goals as goal

pub nonzero_div-result : goal.nonzero_div-result
nonzero_div-result c = (facts c.args.self.now).across_least
