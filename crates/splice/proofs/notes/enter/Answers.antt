use Rattle.splice.proofs.Joining.{enter-puttable, entered}
use native.Mathlib.Omega.{arith}
use Rattle.splice.proofs.notes.enter.Goals as goal

pub put-requires : goal.put-requires
put-requires c = search (enter-puttable, arith)

pub returns : goal.returns
returns c = search (entered, arith)
