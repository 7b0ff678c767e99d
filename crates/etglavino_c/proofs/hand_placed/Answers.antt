use native.Mathlib.Omega.{arith}
use Rattle.etglavino_c.proofs.Handed.{placed-accepted, placed-refused}
use Rattle.etglavino_c.proofs.hand_placed.Goals as goal

pub returns-in-Ok : goal.returns-in-Ok
returns-in-Ok c = search (placed-accepted, arith)

pub returns-in-Err : goal.returns-in-Err
returns-in-Err c = search (placed-refused, arith)
