use Rattle.splice.proofs.Noting.{over-string, over-list}
use native.Mathlib.Omega.{arith}
use Rattle.splice.proofs.notes.over.Goals as goal

pub returns-then-note-lt-LIST : goal.returns-then-note-lt-LIST
returns-then-note-lt-LIST c = search (over-string, arith)

pub returns : goal.returns
returns c = search (over-list, arith)
