use native.Mathlib.Omega.{arith}
use Rattle.decimal.proofs.Writing.{four-times}
use Rattle.decimal.proofs.digits.digit_at.Goals as goal

pub returns : goal.returns
returns c = search (four-times, arith)
