use Rattle.std.proofs.lemmas.Result.{err_from_is_err_and}
use Rattle.editor.proofs.Entry.{change-refused, change-taken}
use Rattle.texts.proofs.Sizes.{formed, formed-long, small-takes, long-takes}
use native.Mathlib.Omega.{arith}
use Rattle.editor.proofs.text_by.Goals as goal

pub returns-in_err-row : goal.returns-in_err-row
returns-in_err-row c =
    let p = err_from_is_err_and c.from_residual.result c.from_residual.ensures.1 in
    rw (p.1, p.2) (change-refused _ _ _ _ _ _ _ _ c.requires.asked_value _ c.row.ensures _ c.in_err-row.was _)

pub change_in-requires-clause-takeable : goal.change_in-requires-clause-takeable
change_in-requires-clause-takeable c = small-takes _ _ _ 128 (search (formed, c.in_ok-row.was, arith)) (omega arith) (omega arith) (omega arith)

pub returns-then-text-le-SHORT : goal.returns-then-text-le-SHORT
returns-then-text-le-SHORT c = search (change-taken, c.in_ok-row.was, arith)

pub change_sized-requires-clause-takeable : goal.change_sized-requires-clause-takeable
change_sized-requires-clause-takeable c = small-takes _ _ _ 1024 (search (formed, c.in_ok-row.was, arith)) (omega arith) (omega arith) (omega arith)

pub returns-then-text-le-MIDDLE : goal.returns-then-text-le-MIDDLE
returns-then-text-le-MIDDLE c = search (change-taken, c.in_ok-row.was, arith)

pub change_sized-requires-2-clause-takeable : goal.change_sized-requires-2-clause-takeable
change_sized-requires-2-clause-takeable c = long-takes _ _ _ (search (formed-long, c.in_ok-row.was, arith)) (omega arith) (omega arith)

pub returns : goal.returns
returns c = search (change-taken, c.in_ok-row.was, arith)
