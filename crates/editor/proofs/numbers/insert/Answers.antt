use Rattle.editor.proofs.Entry.{named-insert}
use native.Mathlib.Omega.{arith}
use Rattle.editor.proofs.numbers.insert.Goals as goal

pub returns : goal.returns
returns c = search (named-insert, arith)
