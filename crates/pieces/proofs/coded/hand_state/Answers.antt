use Rattle.pieces.proofs.Coding.{numbers_as}
use native.Mathlib.Omega.{arith}
use Rattle.pieces.proofs.coded.hand_state.Goals as goal

pub returns : goal.returns
returns c = search (numbers_as, arith)
