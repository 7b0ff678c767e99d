use Rattle.pieces.proofs.Storing.{started}
use native.Mathlib.Omega.{arith}
use Rattle.pieces.proofs.state.State.start.Goals as goal

pub returns : goal.returns
returns c = search (started, arith)
