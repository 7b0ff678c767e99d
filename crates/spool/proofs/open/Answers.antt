use Rattle.std.proofs.lemmas.Result.{err_from_is_err_and}
use Rattle.spool.proofs.Begun.{open-whole, open-damaged}
use native.Mathlib.Omega.{arith}
use Rattle.spool.proofs.open.Goals as goal

pub returns-in_err-found : goal.returns-in_err-found
returns-in_err-found c =
    let p = err_from_is_err_and c.from_residual.result c.from_residual.ensures.1 in
    rw (p.1, p.2) (open-damaged _ _ _ c.go_through.ensures _ c.in_err-found.was)

pub returns : goal.returns
returns c = search (open-whole, c.in_ok-found.was, arith)
