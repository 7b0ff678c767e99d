use Rattle.pieces.proofs.Coding.{state-as}
use native.Mathlib.Omega.{arith}
use Rattle.pieces.proofs.coded.state_in.Goals as goal

pub returns : goal.returns
returns c = search (state-as, arith)
