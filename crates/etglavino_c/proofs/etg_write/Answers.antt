use native.Mathlib.Omega.{arith}
use Rattle.etglavino_c.proofs.Handed.{write-accepted, write-refused}
use Rattle.etglavino_c.proofs.etg_write.Goals as goal

pub returns-in-Ok : goal.returns-in-Ok
returns-in-Ok c = search (write-accepted, arith)

pub returns-in-Err : goal.returns-in-Err
returns-in-Err c = search (write-refused, arith)
