use Rattle.sheets.proofs.Beginnings.{hint-begins-end, hint-begins-other, hint-begins-string}
use native.Mathlib.Omega.{arith}
use Rattle.sheets.proofs.begins.hint_begins.Goals as goal

pub returns-then-to-src : goal.returns-then-to-src
returns-then-to-src c = search (hint-begins-end, arith)

pub returns-then-src-to-ne93 : goal.returns-then-src-to-ne93
returns-then-src-to-ne93 c = search (hint-begins-other, arith)

pub returns : goal.returns
returns c = search (hint-begins-string, arith)
