use native.Mathlib.Omega.{arith}
use Rattle.records.proofs.Showing.{place-ordered, place-ended, place-shown, place_at, place_none, place-none-at}
use Rattle.records.proofs.shown_or.Goals as goal

pub slice_bounds-result-count : goal.slice_bounds-result-count
slice_bounds-result-count c = search (place-ordered, arith)

pub slice_bounds-result-start : goal.slice_bounds-result-start
slice_bounds-result-start c = search (place-ordered, arith)

pub slice_bounds-result-end : goal.slice_bounds-result-end
slice_bounds-result-end c = search (place-ended, arith)

pub returns-in-Some : goal.returns-in-Some
returns-in-Some c = search (place-shown, place_at, arith)

pub returns-in-None : goal.returns-in-None
returns-in-None c = search (place_none, place-none-at, arith)
