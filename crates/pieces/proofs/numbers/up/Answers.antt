use native.Mathlib.Omega.{arith}
use Rattle.pieces.specs.Capped.{capped}
use Rattle.pieces.proofs.numbers.up.Goals as goal

pub returns-then-n-ge-CAP : goal.returns-then-n-ge-CAP
unfolding capped
returns-then-n-ge-CAP c = omega arith

pub returns-else-n-ge-CAP : goal.returns-else-n-ge-CAP
unfolding capped
returns-else-n-ge-CAP c = omega arith
