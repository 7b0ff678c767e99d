use native.Mathlib.Omega.{arith}
use Rattle.lookup.proofs.Shown.{data-ordered, data-ended, data-shown, data-at, data-none, data-none-at}
use Rattle.lookup.proofs.data.Goals as goal

pub slice_bounds-result-count : goal.slice_bounds-result-count
slice_bounds-result-count c = search (data-ordered, arith)

pub slice_bounds-result-start : goal.slice_bounds-result-start
slice_bounds-result-start c = search (data-ordered, arith)

pub slice_bounds-result-end : goal.slice_bounds-result-end
slice_bounds-result-end c = search (data-ended, arith)

pub returns-in-Some : goal.returns-in-Some
returns-in-Some c = search (data-shown, data-at, arith)

pub returns-in-None : goal.returns-in-None
returns-in-None c = search (data-none, data-none-at, arith)
