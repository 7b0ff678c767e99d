use native.Mathlib.Omega.{arith}
use Rattle.etglavino_c.proofs.Handed.{read-placed}
use Rattle.etglavino_c.proofs.etg_read.Goals as goal

pub returns : goal.returns
returns c = search (read-placed, arith)
