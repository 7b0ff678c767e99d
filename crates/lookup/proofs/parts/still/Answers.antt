use native.Mathlib.Omega.{arith}
use Rattle.lookup.proofs.Agreeing.{still-on, still-off}
use Rattle.lookup.proofs.parts.still.Goals as goal

pub returns-then-x-y : goal.returns-then-x-y
returns-then-x-y c = search (still-on, arith)

pub returns-else-x-y : goal.returns-else-x-y
returns-else-x-y c = search (still-off, arith)
