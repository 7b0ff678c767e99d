use native.Mathlib.Omega.{arith}
use Rattle.moves.proofs.Cells.{up_start, up-block, up-long}
use Rattle.moves.proofs.raise_blocks.Goals as goal

pub loop-j-init : goal.loop-j-init
loop-j-init c = search (up_start, arith)

pub loop-j-preserved : goal.loop-j-preserved
loop-j-preserved c = search (up-block, arith)

pub shape_of-buf : goal.shape_of-buf
shape_of-buf c = search (up-long, arith)
