use Rattle.etglavino_c.proofs.Spooled.{commits-handed}
use native.Mathlib.Omega.{arith}
use Rattle.etglavino_c.proofs.spooling.etg_spool_add_commits.Goals as goal

pub returns : goal.returns
returns c = search (commits-handed, arith)
