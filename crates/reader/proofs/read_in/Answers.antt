use Rattle.std.proofs.lemmas.Result.{err_from_is_err_and}
use Rattle.reader.proofs.Storing.{fill-room, fill-accepted, fill-refused}
use native.Mathlib.Omega.{arith}
use Rattle.reader.proofs.read_in.Goals as goal

pub returns-in_err-sizes : goal.returns-in_err-sizes
returns-in_err-sizes c =
    let p = err_from_is_err_and c.from_residual.result c.from_residual.ensures.1 in
    rw (p.1, p.2) (search (fill-refused, c.in_err-sizes.was, arith))

pub fill-requires : goal.fill-requires
fill-requires c = search (fill-room, c.in_ok-sizes.was, arith)

pub returns : goal.returns
returns c = search (fill-accepted, c.in_ok-sizes.was, arith)
