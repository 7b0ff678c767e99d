use Rattle.hours.proofs.Doubling.{shift-sub, bits-add, bits-made, bits-zero}
use native.Mathlib.Omega.{arith}
use Rattle.hours.proofs.bits_of.Goals as goal

pub returns-then-n-eq0 : goal.returns-then-n-eq0
returns-then-n-eq0 c = search (bits-zero, arith)

pub overflow_sub-k : goal.overflow_sub-k
overflow_sub-k c = shift-sub c.args.n c.ranges.n.fits c.if-n-eq0.false

pub overflow_add-result : goal.overflow_add-result
overflow_add-result c = bits-add c.args.n c.ranges.n.fits c.if-n-eq0.false

pub returns : goal.returns
returns c = bits-made c.args.n c.ranges.n.fits c.if-n-eq0.false
