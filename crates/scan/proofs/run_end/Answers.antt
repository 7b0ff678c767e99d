use native.Mathlib.Omega.{arith}
use Rattle.scan.proofs.Tokens.{ran-reach}
use Rattle.scan.proofs.run_end.Goals as goal

pub returns : goal.returns
returns c = search (ran-reach, arith)
