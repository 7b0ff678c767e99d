use Rattle.etglavino_c.proofs.ValueHanded.{hand-summed, hand-unsummed}
use native.Mathlib.Omega.{arith}
use Rattle.etglavino_c.proofs.valuing.hand_week.Goals as goal

pub returns-in-Ok : goal.returns-in-Ok
returns-in-Ok c = search (hand-summed, arith)

pub returns-in-Err : goal.returns-in-Err
returns-in-Err c = search (hand-unsummed, arith)
