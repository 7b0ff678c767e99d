use Rattle.plan.proofs.Finding.{text-replace, text-insert, text-remove}
use native.Mathlib.Omega.{arith}
use Rattle.plan.proofs.has_text.Goals as goal

pub returns-in-Replace : goal.returns-in-Replace
returns-in-Replace c = search (text-replace, arith)

pub returns-in-Insert : goal.returns-in-Insert
returns-in-Insert c = search (text-insert, arith)

pub returns-in-Remove : goal.returns-in-Remove
returns-in-Remove c = search (text-remove, arith)
