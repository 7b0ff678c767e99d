use Rattle.etglavino_c.proofs.Spooled.{step-handed}
use native.Mathlib.Omega.{arith}
use Rattle.etglavino_c.proofs.spooling.etg_spool_add_step.Goals as goal

pub returns : goal.returns
returns c = search (step-handed, arith)
