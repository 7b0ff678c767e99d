use native.Mathlib.Omega.{arith}
use Rattle.etglavino_c.proofs.Handed.{remove-handed}
use Rattle.etglavino_c.proofs.corrections.etg_remove.Goals as goal

pub returns : goal.returns
returns c = search (remove-handed, arith)
