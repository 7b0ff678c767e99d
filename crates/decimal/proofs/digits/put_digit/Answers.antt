use native.Mathlib.Omega.{arith}
use Rattle.decimal.proofs.Writing.{led}
use Rattle.decimal.proofs.digits.put_digit.Goals as goal

pub returns : goal.returns
returns c = search (led, arith)
