use Rattle.etglavino_c.proofs.Spooled.{open-accepted, open-refused}
use native.Mathlib.Omega.{arith}
use Rattle.etglavino_c.proofs.spooling.etg_spool_open.Goals as goal

pub returns-in-Ok : goal.returns-in-Ok
returns-in-Ok c = search (open-accepted, arith)

pub returns-in-Err : goal.returns-in-Err
returns-in-Err c = search (open-refused, arith)
