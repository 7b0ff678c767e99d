use Rattle.shifts.proofs.Lining.{count-hours, count_none}
use native.Mathlib.Omega.{arith}
use Rattle.shifts.proofs.lines.count_at.Goals as goal

pub returns-in_err-line : goal.returns-in_err-line
returns-in_err-line c = rw c.from_residual.ensures (count_none _ _ _ _ _ c.hours_at.ensures c.in_err-line.was)

pub returns : goal.returns
returns c = search (count-hours, c.in_ok-line.was, arith)
