use native.Mathlib.Omega.{arith}
use Rattle.decimal.proofs.Writing.{some-width, more-first, more-inside, more-below, more-power, more-large, more-again, more-octet, more-digit, more-last}
use Rattle.decimal.proofs.digits.put_more.Goals as goal

pub overflow_step-k : goal.overflow_step-k
overflow_step-k c = search (some-width, arith)

pub loop-k-init : goal.loop-k-init
loop-k-init c = search (more-first, arith)

pub bounds-powers-k : goal.bounds-powers-k
bounds-powers-k c = search (more-below, arith)

pub put_digit-left-requires : goal.put_digit-left-requires
put_digit-left-requires c = (search (more-power, arith), search (more-large, arith), search (more-inside, arith))

pub loop-k-preserved : goal.loop-k-preserved
loop-k-preserved c = search (more-again, arith)

pub overflow_cast-out : goal.overflow_cast-out
overflow_cast-out c = search (more-octet, arith)

pub overflow_add-out : goal.overflow_add-out
overflow_add-out c = search (more-digit, arith)

pub bounds-out-i : goal.bounds-out-i
bounds-out-i c = search (more-inside, arith)

pub returns : goal.returns
returns c = search (more-last, arith)
