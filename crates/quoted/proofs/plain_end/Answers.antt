use native.Mathlib.Omega.{arith}
use Rattle.quoted.proofs.PieceSteps.{plain-reach}
use Rattle.quoted.proofs.plain_end.Goals as goal

pub returns : goal.returns
returns c = search (plain-reach, arith)
