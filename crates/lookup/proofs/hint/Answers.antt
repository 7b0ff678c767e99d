use native.Mathlib.Omega.{arith}
use Rattle.lookup.proofs.Shown.{hint-ordered, hint-ended, hint-shown, hint-at, hint-default, hint-default-at}
use Rattle.lookup.proofs.hint.Goals as goal

pub slice_bounds-result-count : goal.slice_bounds-result-count
slice_bounds-result-count c = search (hint-ordered, arith)

pub slice_bounds-result-start : goal.slice_bounds-result-start
slice_bounds-result-start c = search (hint-ordered, arith)

pub slice_bounds-result-end : goal.slice_bounds-result-end
slice_bounds-result-end c = search (hint-ended, arith)

pub returns-in-Some : goal.returns-in-Some
returns-in-Some c = search (hint-shown, hint-at, arith)

pub returns-in-None : goal.returns-in-None
returns-in-None c = search (hint-default, hint-default-at, arith)
