use native.Mathlib.Omega.{arith}
use Rattle.lookup.proofs.Agreeing.{agree-longer, agree-start, block_same, block-differs}
use Rattle.lookup.proofs.parts.parts_equal.Goals as goal

pub returns-then-a-b : goal.returns-then-a-b
returns-then-a-b c = search (agree-longer, arith)

pub loop-i-init : goal.loop-i-init
loop-i-init c = search (agree-start, arith)

pub loop-i-preserved : goal.loop-i-preserved
loop-i-preserved c = search (block_same, arith)

pub returns-else-block_equal : goal.returns-else-block_equal
returns-else-block_equal c = search (block-differs, arith)
