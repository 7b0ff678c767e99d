use Rattle.owned.proofs.Meeting.{closes-elsewhere, closes_here}
use native.Mathlib.Omega.{arith}
use Rattle.owned.proofs.closes.Goals as goal

pub returns-then-note-at : goal.returns-then-note-at
returns-then-note-at c = search (closes-elsewhere, arith)

pub returns : goal.returns
returns c = search (closes_here, arith)
