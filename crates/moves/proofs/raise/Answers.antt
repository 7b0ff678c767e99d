use native.Mathlib.Omega.{arith}
use Rattle.moves.proofs.Cells.{up_start, up_one, up-long, up-end}
use Rattle.moves.proofs.raise.Goals as goal

pub loop-j-init : goal.loop-j-init
loop-j-init c = search (up_start, arith)

pub loop-j-preserved : goal.loop-j-preserved
loop-j-preserved c = search (up_one, arith)

pub shape_of-buf : goal.shape_of-buf
shape_of-buf c = search (up-long, arith)

pub returns : goal.returns
returns c = search (up-end, arith)
