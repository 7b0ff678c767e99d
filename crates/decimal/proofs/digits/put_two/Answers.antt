use native.Mathlib.Omega.{arith}
use Rattle.decimal.proofs.Writing.{led-last}
use Rattle.decimal.proofs.digits.put_two.Goals as goal

pub returns : goal.returns
returns c = search (led-last, arith)
