use Rattle.shifts.proofs.Typing.{kind-hinted, kind-plain}
use native.Mathlib.Omega.{arith}
use Rattle.shifts.proofs.strings.row_kind.Goals as goal

pub returns-then-row-eq1 : goal.returns-then-row-eq1
returns-then-row-eq1 c = search (kind-hinted, arith)

pub returns : goal.returns
returns c = search (kind-plain, arith)
