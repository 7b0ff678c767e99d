use native.Mathlib.Omega.{arith}
use Rattle.lookup.proofs.Agreeing.{block_none, block_on, block-end}
use Rattle.lookup.proofs.parts.block_equal.Goals as goal

pub loop-k-init : goal.loop-k-init
loop-k-init c = search (block_none, arith)

pub loop-k-preserved : goal.loop-k-preserved
loop-k-preserved c = search (block_on, arith)

pub returns : goal.returns
returns c = search (block-end, arith)
