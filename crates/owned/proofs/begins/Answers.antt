use native.Mathlib.Omega.{arith}
use Rattle.owned.proofs.Meeting.{begins-apart, begins-deep, begins-elsewhere, begins-so}
use Rattle.owned.proofs.begins.Goals as goal

pub returns-then-opened-ge-DEPTH : goal.returns-then-opened-ge-DEPTH
returns-then-opened-ge-DEPTH c = search (begins-deep, arith)

pub returns-then-note-up : goal.returns-then-note-up
returns-then-note-up c = search (begins-elsewhere, arith)

pub returns-then-note-at : goal.returns-then-note-at
returns-then-note-at c = search (begins-apart, arith)

pub returns : goal.returns
returns c = search (begins-so, arith)
