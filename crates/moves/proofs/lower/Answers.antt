use native.Mathlib.Omega.{arith}
use Rattle.moves.proofs.Cells.{down-start, down-one, down-long, down-end}
use Rattle.moves.proofs.lower.Goals as goal

pub loop-j-init : goal.loop-j-init
loop-j-init c = search (down-start, arith)

pub loop-j-preserved : goal.loop-j-preserved
loop-j-preserved c = search (down-one, arith)

pub shape_of-buf : goal.shape_of-buf
shape_of-buf c = search (down-long, arith)

pub returns : goal.returns
returns c = search (down-end, arith)
