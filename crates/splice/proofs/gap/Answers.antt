use native.Mathlib.Omega.{arith}
use Rattle.splice.proofs.Finishing.{raised, lowered}
use Rattle.splice.proofs.gap.Goals as goal

pub returns-then-len-old : goal.returns-then-len-old
returns-then-len-old c = search (raised, arith)

pub returns-else-len-old : goal.returns-else-len-old
returns-else-len-old c = search (lowered, arith)
