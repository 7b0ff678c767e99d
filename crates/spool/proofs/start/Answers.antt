use Rattle.std.proofs.lemmas.Result.{err_from_is_err_and}
use Rattle.spool.proofs.Begun.{sheet-small, rest-within, start-no-room, start-good, start-bad, start-damaged}
use native.Mathlib.Omega.{arith}
use Rattle.spool.proofs.start.Goals as goal

pub returns-in_err-found : goal.returns-in_err-found
returns-in_err-found c =
    let p = err_from_is_err_and c.from_residual.result c.from_residual.ensures.1 in
    rw p.1 (start-damaged _ _ _ c.go_through.ensures _ _ _ c.in_err-found.was _ p.2)

pub returns-then-not-sheet : goal.returns-then-not-sheet
returns-then-not-sheet c = search (start-bad, c.in_ok-found.was, arith)

pub entry_len-requires : goal.entry_len-requires
entry_len-requires c = search (sheet-small, arith)

pub overflow_sub-area : goal.overflow_sub-area
overflow_sub-area c = search (rest-within, c.in_ok-found.was, arith)

pub returns-then-entry_len-area : goal.returns-then-entry_len-area
returns-then-entry_len-area c = search (start-no-room, c.in_ok-found.was, arith)

pub returns : goal.returns
returns c = search (start-good, c.in_ok-found.was, arith)
