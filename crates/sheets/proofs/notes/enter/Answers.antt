use Rattle.sheets.proofs.Keeping.{enter-none}
use native.Mathlib.Omega.{arith}
use Rattle.sheets.proofs.notes.enter.Goals as goal

pub returns-then-opened-ge-DEPTH : goal.returns-then-opened-ge-DEPTH
returns-then-opened-ge-DEPTH c = search (enter-none, arith)
