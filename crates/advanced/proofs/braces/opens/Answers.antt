use Rattle.advanced.proofs.Trees.{opens-other, opens-brace}
use native.Mathlib.Omega.{arith}
use Rattle.advanced.proofs.braces.opens.Goals as goal

pub returns-then-b-ne123 : goal.returns-then-b-ne123
returns-then-b-ne123 c = search (opens-other, arith)

pub returns : goal.returns
returns c = search (opens-brace, arith)
