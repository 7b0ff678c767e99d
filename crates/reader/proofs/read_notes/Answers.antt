use Rattle.std.proofs.lemmas.Result.{err_from_is_err_and}
use Rattle.reader.proofs.Entry.{noted-spaced, noted-long, literal-so, notes-refused, notes-taken}
use Rattle.texts.proofs.Sizes.{formed, formed-long}
use native.Mathlib.Omega.{arith}
use Rattle.reader.proofs.read_notes.Goals as goal

pub returns-in_err-row : goal.returns-in_err-row
returns-in_err-row c =
    let p = err_from_is_err_and c.from_residual.result c.from_residual.ensures.1 in
    rw (p.1, p.2) (notes-refused _ _ _ _ _ _ c.row.ensures _ c.in_err-row.was)

pub put-requires : goal.put-requires
put-requires c = noted-spaced _ _ _ _ 128 (search (formed, c.in_ok-row.was, arith)) (omega arith) (omega arith) (omega arith) c.requires

pub returns-then-source-le-SHORT : goal.returns-then-source-le-SHORT
returns-then-source-le-SHORT c = search (notes-taken, c.in_ok-row.was, arith)

pub put_sized-requires : goal.put_sized-requires
put_sized-requires c =
    noted-spaced _ _ _ _ 1024 (search (formed, c.in_ok-row.was, arith)) (omega arith) (omega arith) (omega arith) c.requires

pub returns-then-source-le-MIDDLE : goal.returns-then-source-le-MIDDLE
returns-then-source-le-MIDDLE c = search (notes-taken, c.in_ok-row.was, arith)

pub put_literal-requires-clause-literal : goal.put_literal-requires-clause-literal
put_literal-requires-clause-literal c = search (literal-so, formed-long, c.in_ok-row.was, arith)

pub returns-then-literal : goal.returns-then-literal
returns-then-literal c = search (notes-taken, c.in_ok-row.was, arith)

pub put_sized-requires-2 : goal.put_sized-requires-2
put_sized-requires-2 c = noted-long _ _ _ _ (search (formed-long, c.in_ok-row.was, arith)) (omega arith) (omega arith) c.requires

pub returns : goal.returns
returns c = search (notes-taken, c.in_ok-row.was, arith)
