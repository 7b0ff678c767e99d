use Rattle.splice.proofs.Moving.{lower-start, lower-later, lower-on, lower_long, lower-end}
use native.Mathlib.Omega.{arith}
use Rattle.splice.proofs.notes.lower.Goals as goal

pub loop-j-init : goal.loop-j-init
loop-j-init c = search (lower-start, arith)

pub later-requires : goal.later-requires
later-requires c = search (lower-later, arith)

pub loop-j-preserved : goal.loop-j-preserved
loop-j-preserved c = search (lower-on, arith)

pub shape_of-notes : goal.shape_of-notes
shape_of-notes c = search (lower_long, arith)

pub returns : goal.returns
returns c = search (lower-end, arith)
