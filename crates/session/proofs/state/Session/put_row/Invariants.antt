-- The signs of the columns passed stand behind those before the row.
use Rattle.std.proofs.Common.{◌≡◌, ◌+◌, ◌*◌, ◌++◌, map, vec_items}
use Rattle.std.specs.List.{range_with_len}
use Rattle.session.specs.Picture.{sign_at}
use Rattle.session.specs.Played.{field_of, fleet_of}
use Rattle.session.proofs.state.Session.put_row.Given as goal

abbrev pub invariant-loop-column : goal.invariant-loop-column
invariant-loop-column l =
    vec_items l.signs
    ≡ vec_items l.initial.signs ++ map (λ x. sign_at (field_of l.self) (fleet_of l.self) (l.row * l.self.shown.across + x)) (range_with_len 0 l.column)
