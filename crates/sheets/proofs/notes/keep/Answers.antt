use Rattle.sheets.proofs.Keeping.{keep-none}
use native.Mathlib.Omega.{arith}
use Rattle.sheets.proofs.notes.keep.Goals as goal

pub returns-then-node-notes : goal.returns-then-node-notes
returns-then-node-notes c = search (keep-none, arith)
