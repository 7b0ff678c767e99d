use Rattle.etglavino_c.proofs.ValueHanded.{value-handed}
use native.Mathlib.Omega.{arith}
use Rattle.etglavino_c.proofs.valuing.etg_value.Goals as goal

pub returns : goal.returns
returns c = search (value-handed, arith)
