use native.Mathlib.Omega.{arith}
use Rattle.lookup.proofs.Answered.{sheet-lent, sheet-length, two-sheets, copied-same, compared, right-refused, left-refused}
use Rattle.lookup.proofs.same.Goals as goal

pub copied-requires : goal.copied-requires
copied-requires c = search (sheet-lent, arith)

pub returns-then-copied : goal.returns-then-copied
returns-then-copied c = search (copied-same, arith)

pub slice_bounds-left-end : goal.slice_bounds-left-end
slice_bounds-left-end c = sheet-length _ _ _ c.sheet.ensures c.if-sheet.true

pub slice_bounds-right-end : goal.slice_bounds-right-end
slice_bounds-right-end c = search (sheet-length, arith)

pub alike-requires : goal.alike-requires
alike-requires c = two-sheets _ _ _ _ _ c.sheet.ensures c.if-sheet.true _ c.sheet-then-sheet.ensures c.if-sheet-2.true

pub returns-then-sheet-2 : goal.returns-then-sheet-2
returns-then-sheet-2 c = search (compared, arith)

pub returns-else-sheet-2 : goal.returns-else-sheet-2
returns-else-sheet-2 c = search (right-refused, arith)

pub returns-else-sheet : goal.returns-else-sheet
returns-else-sheet c = search (left-refused, arith)
