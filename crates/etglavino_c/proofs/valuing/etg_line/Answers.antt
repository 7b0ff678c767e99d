use Rattle.etglavino_c.proofs.ValueHanded.{line-handed}
use native.Mathlib.Omega.{arith}
use Rattle.etglavino_c.proofs.valuing.etg_line.Goals as goal

pub returns : goal.returns
returns c = search (line-handed, arith)
