use Rattle.blocks.proofs.Lengths.{length-few, framed}
use native.Mathlib.Omega.{arith}
use Rattle.blocks.proofs.frame.Goals as goal

pub overflow_add-result : goal.overflow_add-result
overflow_add-result c = omega (arith, length-few _ _ _ _ _ c.put_digits.ensures (omega arith))

pub returns : goal.returns
returns c = search (framed, arith)
