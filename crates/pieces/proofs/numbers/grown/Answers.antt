use native.Mathlib.Omega.{arith}
use Rattle.pieces.specs.Capped.{capped}
use Rattle.pieces.proofs.numbers.grown.Goals as goal

pub returns-then-n : goal.returns-then-n
unfolding capped
returns-then-n c = omega arith

pub returns-else-n : goal.returns-else-n
unfolding capped
returns-else-n c = omega arith
