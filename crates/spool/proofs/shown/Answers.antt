use Rattle.spool.proofs.Begun.{part-ordered, part-ended, shown-part, shown-at, shown-none, shown-none-at}
use native.Mathlib.Omega.{arith}
use Rattle.spool.proofs.shown.Goals as goal

pub slice_bounds-result-count : goal.slice_bounds-result-count
slice_bounds-result-count c = search (part-ordered, arith)

pub slice_bounds-result-start : goal.slice_bounds-result-start
slice_bounds-result-start c = search (part-ordered, arith)

pub slice_bounds-result-end : goal.slice_bounds-result-end
slice_bounds-result-end c = search (part-ended, arith)

pub returns-in-Ok : goal.returns-in-Ok
returns-in-Ok c = search (shown-part, shown-at, arith)

pub returns-in-Err : goal.returns-in-Err
returns-in-Err c = search (shown-none, shown-none-at, arith)
