use native.Mathlib.Omega.{arith}
use Rattle.cases.proofs.Numbers.{no_part, part-back, part-is}
use Rattle.cases.proofs.wire.part.Goals as goal

pub returns-then-end-case : goal.returns-then-end-case
returns-then-end-case c = search (no_part, arith)

pub returns-then-start-end : goal.returns-then-start-end
returns-then-start-end c = search (part-back, arith)

pub returns : goal.returns
returns c = search (part-is, arith)
