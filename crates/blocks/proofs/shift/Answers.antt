use Rattle.blocks.proofs.Lengths.{shift-down, shift_none, shift-wide, shift-up}
use native.Mathlib.Omega.{arith}
use Rattle.blocks.proofs.shift.Goals as goal

pub returns-then-n-lt10 : goal.returns-then-n-lt10
returns-then-n-lt10 c = search (shift-down, arith)

pub returns-then-n-lt100 : goal.returns-then-n-lt100
returns-then-n-lt100 c = search (shift_none, arith)

pub overflow_sub-width : goal.overflow_sub-width
overflow_sub-width c = search (shift-wide, arith)

pub returns : goal.returns
returns c = search (shift-up, arith)
