use native.Mathlib.Omega.{arith}
use Rattle.etglavino_c.proofs.Handed.{replace-placed}
use Rattle.etglavino_c.proofs.etg_replace.Goals as goal

pub returns : goal.returns
returns c = search (replace-placed, arith)
