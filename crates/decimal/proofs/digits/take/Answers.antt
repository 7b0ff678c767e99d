use native.Mathlib.Omega.{arith}
use Rattle.decimal.proofs.Writing.{took-none, took_one}
use Rattle.decimal.proofs.digits.take.Goals as goal

pub returns-then-part-much : goal.returns-then-part-much
returns-then-part-much c = search (took-none, arith)

pub returns : goal.returns
returns c = search (took_one, arith)
