use Rattle.texts.proofs.Taking.{literal-taken}
use native.Mathlib.Omega.{arith}
use Rattle.texts.proofs.take_literal.Goals as goal

pub returns : goal.returns
returns c = search (literal-taken, arith)
