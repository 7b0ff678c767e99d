use Rattle.editor.proofs.Entry.{named-remove}
use native.Mathlib.Omega.{arith}
use Rattle.editor.proofs.numbers.remove.Goals as goal

pub returns : goal.returns
returns c = search (named-remove, arith)
