use Rattle.sheets.proofs.Keeping.{up_none, up-far, up-some}
use native.Mathlib.Omega.{arith}
use Rattle.sheets.proofs.notes.up_of.Goals as goal

pub returns-then-opened-eq0 : goal.returns-then-opened-eq0
returns-then-opened-eq0 c = search (up_none, arith)

pub returns-then-opened-gt-DEPTH : goal.returns-then-opened-gt-DEPTH
returns-then-opened-gt-DEPTH c = search (up-far, arith)

pub returns : goal.returns
returns c = search (up-some, arith)
