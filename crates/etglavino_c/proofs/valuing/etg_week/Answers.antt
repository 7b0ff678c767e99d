use Rattle.etglavino_c.proofs.ValueHanded.{week-handed}
use native.Mathlib.Omega.{arith}
use Rattle.etglavino_c.proofs.valuing.etg_week.Goals as goal

pub returns : goal.returns
returns c = search (week-handed, arith)
