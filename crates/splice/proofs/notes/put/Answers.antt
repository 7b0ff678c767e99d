use Rattle.splice.proofs.Moving.{put-start, put-owning, put_on, put-long, put-end}
use native.Mathlib.Omega.{arith}
use Rattle.splice.proofs.notes.put.Goals as goal

pub loop-note-init : goal.loop-note-init
loop-note-init c = search (put-start, arith)

pub own-requires : goal.own-requires
own-requires c = search (put-owning, arith)

pub loop-note-preserved : goal.loop-note-preserved
loop-note-preserved c = search (put_on, arith)

pub shape_of-notes : goal.shape_of-notes
shape_of-notes c = search (put-long, arith)

pub returns : goal.returns
returns c = search (put-end, arith)
