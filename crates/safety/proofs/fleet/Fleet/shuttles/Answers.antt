-- There are at most as many as the array has places.
use Rattle.std.proofs.Common.{sym, arith}
use Rattle.std.proofs.lemmas.List.{length-take-le}
use Rattle.safety.proofs.Fitting.{array_long, count_most}
use Rattle.safety.proofs.fleet.Fleet.shuttles.Goals as goal

pub slice_bounds-result-end : goal.slice_bounds-result-end
slice_bounds-result-end c =
    let f = c.args.self.now in
    let most = count_most f in
    let long = array_long f in sym (length-take-le f.count f.shuttles (omega arith))

pub returns-clause-long : goal.returns-clause-long
returns-clause-long c =
    let f = c.args.self.now in
    let most = count_most f in
    let long = array_long f in length-take-le f.count f.shuttles (omega arith)
