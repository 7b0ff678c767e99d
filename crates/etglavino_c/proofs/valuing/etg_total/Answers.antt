use Rattle.etglavino_c.proofs.ValueHanded.{total-handed, total-unhanded}
use native.Mathlib.Omega.{arith}
use Rattle.etglavino_c.proofs.valuing.etg_total.Goals as goal

pub returns-in-Ok : goal.returns-in-Ok
returns-in-Ok c = search (total-handed, arith)

pub returns-in-Err : goal.returns-in-Err
returns-in-Err c = search (total-unhanded, arith)
