use Rattle.pieces.proofs.Tabled.{puts-coded}
use native.Mathlib.Omega.{arith}
use Rattle.pieces.proofs.ending.end_coded.Goals as goal

pub returns : goal.returns
returns c = search (puts-coded, arith)
