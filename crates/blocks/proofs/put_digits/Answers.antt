use Rattle.blocks.proofs.Lengths.{length-room, colon-place, colon-fits, length_more}
use native.Mathlib.Omega.{arith}
use borrow.Author.Rules.{rules}
use Rattle.blocks.proofs.put_digits.Goals as goal

pub put_decimal-p-requires : goal.put_decimal-p-requires
put_decimal-p-requires c = (search rules, search (length-room, arith))

pub bounds-out-p : goal.bounds-out-p
bounds-out-p c = search (colon-place, arith)

pub overflow_add-result : goal.overflow_add-result
overflow_add-result c = search (colon-fits, arith)

pub returns : goal.returns
returns c = search (length_more, arith)
