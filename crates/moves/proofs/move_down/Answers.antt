use native.Mathlib.Omega.{arith}
use Rattle.moves.proofs.Cells.{down-rest}
use Rattle.moves.proofs.move_down.Goals as goal

pub returns : goal.returns
returns c = search (down-rest, arith)
