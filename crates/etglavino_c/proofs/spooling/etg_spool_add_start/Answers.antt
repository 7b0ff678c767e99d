use Rattle.etglavino_c.proofs.Spooled.{start-accepted, start-refused}
use native.Mathlib.Omega.{arith}
use Rattle.etglavino_c.proofs.spooling.etg_spool_add_start.Goals as goal

pub returns-in-Ok : goal.returns-in-Ok
returns-in-Ok c = search (start-accepted, arith)

pub returns-in-Err : goal.returns-in-Err
returns-in-Err c = search (start-refused, arith)
