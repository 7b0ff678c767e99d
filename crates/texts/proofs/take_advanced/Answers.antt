use Rattle.texts.proofs.Taking.{terminal-none, terminal-unbraced, terminal-long, terminal-lent, terminal-part, terminal-short, terminal-noted}
use Rattle.std.proofs.lemmas.Result.{err_from_is_err_and}
use native.Mathlib.Omega.{arith}
use borrow.Author.Rules.{rules}
use Rattle.texts.proofs.take_advanced.Goals as goal

pub slice_bounds-part-end : goal.slice_bounds-part-end
slice_bounds-part-end c = search (terminal-lent, c.in_ok-sizes.was, arith)

pub slice_bounds-part-end-then-sizes-le-CANONICAL : goal.slice_bounds-part-end-then-sizes-le-CANONICAL
slice_bounds-part-end-then-sizes-le-CANONICAL c = search (terminal-part, c.in_ok-sizes.was, arith)

pub note-requires : goal.note-requires
note-requires c = search (terminal-short, c.in_ok-sizes.was, arith)

pub returns-then-sizes-le-CANONICAL : goal.returns-then-sizes-le-CANONICAL
returns-then-sizes-le-CANONICAL c =
    terminal-noted _ _ _ _ _ _ c.convert.ensures _ c.in_ok-sizes.was c.if-sizes-le-CANONICAL.true (search rules) _ _ c.note.ensures

pub returns-else-sizes-le-CANONICAL : goal.returns-else-sizes-le-CANONICAL
returns-else-sizes-le-CANONICAL c = search (terminal-long, c.in_ok-sizes.was, arith)

pub returns-else-braces : goal.returns-else-braces
returns-else-braces c = search (terminal-unbraced, c.in_ok-sizes.was, arith)

pub returns-in_err-sizes : goal.returns-in_err-sizes
returns-in_err-sizes c =
    let p = err_from_is_err_and c.from_residual.result c.from_residual.ensures.1 in
    rw (p.1, p.2) (terminal-none _ _ _ _ _ _ c.convert.ensures _ c.in_err-sizes.was)
