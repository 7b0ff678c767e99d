use Rattle.splice.proofs.Moving.{raise-start, raise-later, raise-on, raise-long, raise-end}
use native.Mathlib.Omega.{arith}
use Rattle.splice.proofs.notes.raise.Goals as goal

pub loop-j-init : goal.loop-j-init
loop-j-init c = search (raise-start, arith)

pub later-requires : goal.later-requires
later-requires c = search (raise-later, arith)

pub loop-j-preserved : goal.loop-j-preserved
loop-j-preserved c = search (raise-on, arith)

pub shape_of-notes : goal.shape_of-notes
shape_of-notes c = search (raise-long, arith)

pub returns : goal.returns
returns c = search (raise-end, arith)
