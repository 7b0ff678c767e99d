use native.Mathlib.Omega.{arith}
use Rattle.moves.proofs.Cells.{down-start, down-block, down-long}
use Rattle.moves.proofs.lower_blocks.Goals as goal

pub loop-j-init : goal.loop-j-init
loop-j-init c = search (down-start, arith)

pub loop-j-preserved : goal.loop-j-preserved
loop-j-preserved c = search (down-block, arith)

pub shape_of-buf : goal.shape_of-buf
shape_of-buf c = search (down-long, arith)
