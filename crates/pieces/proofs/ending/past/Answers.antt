use Rattle.std.proofs.lemmas.Result.{err_from_is_err_and}
use Rattle.pieces.proofs.Ended.{past-refused, past-never, past-none}
use native.Mathlib.Omega.{arith}
use Rattle.pieces.proofs.ending.past.Goals as goal

pub returns-in_err-sizes : goal.returns-in_err-sizes
returns-in_err-sizes c =
    let p = err_from_is_err_and c.from_residual.result c.from_residual.ensures.1 in
    rw (p.1, p.2) (past-none _ _ _ _ c.extent.ensures _ c.in_err-sizes.was)

pub returns-in_err-room : goal.returns-in_err-room
returns-in_err-room c =
    let p = err_from_is_err_and c.from_residual-in_err-room.result c.from_residual-in_err-room.ensures.1 in
    rw (p.1, p.2) (past-refused _ _ _ _ c.extent.ensures _ c.in_ok-sizes.was _ c.room.ensures _ c.in_err-room.was)

pub returns : goal.returns
returns c = search (past-never, c.in_ok-sizes.was, c.in_ok-room.was, arith)
