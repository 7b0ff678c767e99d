use Rattle.etglavino_c.proofs.ValueHanded.{hand-lined, hand-unlined}
use native.Mathlib.Omega.{arith}
use Rattle.etglavino_c.proofs.valuing.hand_line.Goals as goal

pub returns-in-Ok : goal.returns-in-Ok
returns-in-Ok c = search (hand-lined, arith)

pub returns-in-Err : goal.returns-in-Err
returns-in-Err c = search (hand-unlined, arith)
