use native.Mathlib.Omega.{arith}
use Rattle.etglavino_c.proofs.Handed.{insert-placed}
use Rattle.etglavino_c.proofs.corrections.etg_insert_records.Goals as goal

pub returns : goal.returns
returns c = search (insert-placed, arith)
