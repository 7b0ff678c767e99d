use Rattle.editor.proofs.Entry.{named-replace}
use native.Mathlib.Omega.{arith}
use Rattle.editor.proofs.numbers.replace.Goals as goal

pub returns : goal.returns
returns c = search (named-replace, arith)
