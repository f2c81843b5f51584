-- The rows passed are drawn.
use Rattle.std.proofs.Common.{◌≡◌, vec_items}
use Rattle.std.specs.List.{range_with_len, flat_map}
use Rattle.session.specs.Picture.{picture_row}
use Rattle.session.specs.Played.{field_of, fleet_of}
use Rattle.session.proofs.state.Session.picture.Given as goal

abbrev pub invariant-loop-row : goal.invariant-loop-row
invariant-loop-row l = vec_items l.signs ≡ flat_map (picture_row (field_of l.self) (fleet_of l.self)) (range_with_len 0 l.row)
