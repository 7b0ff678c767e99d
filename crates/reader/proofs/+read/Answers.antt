-- `read` calls itself once, for basic text outside braces; its form falls.
use Rattle.std.proofs.lemmas.Result.{err_from_is_err_and}
use native.Mathlib.Omega.{arith}
use Rattle.texts.proofs.Sizes.{formed, formed-long}
use Rattle.reader.proofs.Entry.{small-spaced, long-spaced, literal-so, read-bare, read-refused, read_taken}
use Rattle.reader.proofs.+read.Goals as goal

pub returns-in_err-row : goal.returns-in_err-row
returns-in_err-row t c =
    let p = err_from_is_err_and c.from_residual.result c.from_residual.ensures.1 in
    rw (p.1, p.2) (read-refused _ _ _ _ _ c.row.ensures _ c.in_err-row.was)

pub returns-then-bare : goal.returns-then-bare
returns-then-bare t c = search (read-bare, arith)

pub read_sized-requires-clause-spaced : goal.read_sized-requires-clause-spaced
read_sized-requires-clause-spaced t c = small-spaced _ _ _ _ 64 (search (formed, c.in_ok-row.was, arith)) (omega arith) (omega arith) (omega arith) (omega arith)

pub returns-then-source-le-BRIEF : goal.returns-then-source-le-BRIEF
returns-then-source-le-BRIEF t c = search (read_taken, c.in_ok-row.was, arith)

pub read_sized-requires-then-source-le-SHORT-clause-spaced : goal.read_sized-requires-then-source-le-SHORT-clause-spaced
read_sized-requires-then-source-le-SHORT-clause-spaced t c = small-spaced _ _ _ _ 128 (search (formed, c.in_ok-row.was, arith)) (omega arith) (omega arith) (omega arith) (omega arith)

pub returns-then-source-le-SHORT : goal.returns-then-source-le-SHORT
returns-then-source-le-SHORT t c = search (read_taken, c.in_ok-row.was, arith)

pub read_sized-requires-then-source-le-MIDDLE-clause-spaced : goal.read_sized-requires-then-source-le-MIDDLE-clause-spaced
read_sized-requires-then-source-le-MIDDLE-clause-spaced t c = small-spaced _ _ _ _ 1024 (search (formed, c.in_ok-row.was, arith)) (omega arith) (omega arith) (omega arith) (omega arith)

pub returns-then-source-le-MIDDLE : goal.returns-then-source-le-MIDDLE
returns-then-source-le-MIDDLE t c = search (read_taken, c.in_ok-row.was, arith)

pub read_literal-requires : goal.read_literal-requires
read_literal-requires t c = search (literal-so, formed-long, c.in_ok-row.was, arith)

pub returns-then-literal : goal.returns-then-literal
returns-then-literal t c = search (read_taken, c.in_ok-row.was, arith)

pub read_sized-requires-2-clause-spaced : goal.read_sized-requires-2-clause-spaced
read_sized-requires-2-clause-spaced t c = long-spaced _ _ _ _ (search (formed-long, c.in_ok-row.was, arith)) (omega arith) (omega arith) (omega arith)

pub returns : goal.returns
returns t c = search (read_taken, c.in_ok-row.was, arith)
