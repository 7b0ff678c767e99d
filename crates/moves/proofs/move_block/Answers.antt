use native.Mathlib.Omega.{arith}
use Rattle.moves.proofs.Cells.{block-moved}
use Rattle.moves.proofs.move_block.Goals as goal

pub returns : goal.returns
returns c = search (block-moved, arith)
