use Rattle.shifts.proofs.Typing.{row_list, row-string}
use native.Mathlib.Omega.{arith}
use Rattle.shifts.proofs.strings.typed_row.Goals as goal

pub returns-then-row-eq2 : goal.returns-then-row-eq2
returns-then-row-eq2 c = search (row_list, arith)

pub returns : goal.returns
returns c = search (row-string, arith)
