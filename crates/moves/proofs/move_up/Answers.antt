use native.Mathlib.Omega.{arith}
use Rattle.moves.proofs.Cells.{up_rest}
use Rattle.moves.proofs.move_up.Goals as goal

pub returns : goal.returns
returns c = search (up_rest, arith)
