use native.Mathlib.Omega.{arith}
use Rattle.writer.proofs.Pieces.{gap-front, gap-none}
use Rattle.writer.proofs.advanced.put_gap.Goals as goal

pub returns-then-due : goal.returns-then-due
returns-then-due c = search (gap-front, arith)

pub returns-else-due : goal.returns-else-due
returns-else-due c = search (gap-none, arith)
