use Rattle.groups.proofs.Lengthy.{length-within, runs_past, part-within, a-sheet, not-sheet, no-sheet}
use native.Mathlib.Omega.{arith}
use Rattle.groups.proofs.sheet_at.Goals as goal

pub returns-in_err-value : goal.returns-in_err-value
returns-in_err-value c = rw c.from_residual.ensures (no-sheet _ _ _ c.length_at.ensures c.in_err-value.was)

pub overflow_sub-area : goal.overflow_sub-area
overflow_sub-area c = search (length-within, arith)

pub returns-then-value-area : goal.returns-then-value-area
returns-then-value-area c = search (runs_past, arith)

pub slice_bounds-part-end : goal.slice_bounds-part-end
slice_bounds-part-end c = search (part-within, arith)

pub returns-then-sheet : goal.returns-then-sheet
returns-then-sheet c = search (a-sheet, arith)

pub returns : goal.returns
returns c = search (not-sheet, arith)
