use native.Mathlib.Omega.{arith}
use Rattle.cases.proofs.Fills.{number-given, number-filled}
use Rattle.cases.proofs.wire.lent_number.Goals as goal

pub returns-then-i-given : goal.returns-then-i-given
returns-then-i-given c = search (number-given, arith)

pub returns-else-i-given : goal.returns-else-i-given
returns-else-i-given c = search (number-filled, arith)
