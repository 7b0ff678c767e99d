use Rattle.etglavino_c.proofs.Spooled.{add-accepted, add-refused}
use native.Mathlib.Omega.{arith}
use Rattle.etglavino_c.proofs.spooling.etg_spool_add.Goals as goal

pub returns-in-Ok : goal.returns-in-Ok
returns-in-Ok c = search (add-accepted, arith)

pub returns-in-Err : goal.returns-in-Err
returns-in-Err c = search (add-refused, arith)
