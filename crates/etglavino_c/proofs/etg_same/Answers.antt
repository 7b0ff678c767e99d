use native.Mathlib.Omega.{arith}
use Rattle.etglavino_c.proofs.Handed.{same-yes, same-no, same-refused}
use Rattle.etglavino_c.proofs.etg_same.Goals as goal

pub returns-then-yes : goal.returns-then-yes
returns-then-yes c = search (same-yes, arith)

pub returns-else-yes : goal.returns-else-yes
returns-else-yes c = search (same-no, arith)

pub returns-in-Err : goal.returns-in-Err
returns-in-Err c = search (same-refused, arith)
