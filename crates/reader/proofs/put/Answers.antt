use Rattle.std.proofs.lemmas.Result.{err_from_is_err_and}
use Rattle.reader.proofs.Storing.{put-none, put_refused, put-source, put-room, put-accepted}
use native.Mathlib.Omega.{arith}
use Rattle.reader.proofs.put.Goals as goal

pub returns-in_err-sizes : goal.returns-in_err-sizes
returns-in_err-sizes c =
    let p = err_from_is_err_and c.from_residual.result c.from_residual.ensures.1 in
    rw (p.1, p.2) (put-none _ _ _ _ _ _ _ _ c.take.ensures _ c.in_err-sizes.was)

pub returns-in_err-room : goal.returns-in_err-room
returns-in_err-room c =
    let p = err_from_is_err_and c.from_residual-in_err-room.result c.from_residual-in_err-room.ensures.1 in
    rw (p.1, p.2) (put_refused _ _ _ _ _ _ _ _ c.take.ensures _ c.in_ok-sizes.was _ c.room.ensures _ c.in_err-room.was)

pub copy-requires : goal.copy-requires
copy-requires c = (search (put-source, c.in_ok-sizes.was, c.in_ok-room.was, arith), search (put-room, c.in_ok-sizes.was, c.in_ok-room.was, arith))

pub returns : goal.returns
returns c = search (put-accepted, c.in_ok-sizes.was, c.in_ok-room.was, arith)
