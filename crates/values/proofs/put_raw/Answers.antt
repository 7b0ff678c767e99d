use Rattle.values.proofs.Laying.{raw-order, raw-outside, raw-full, raw-done}
use native.Mathlib.Omega.{arith}
use Rattle.values.proofs.put_raw.Goals as goal

pub returns-then-end-start : goal.returns-then-end-start
returns-then-end-start c = search (raw-order, arith)

pub returns-then-src-end : goal.returns-then-src-end
returns-then-src-end c = search (raw-outside, arith)

pub returns-then-out-k : goal.returns-then-out-k
returns-then-out-k c = search (raw-full, arith)

pub returns : goal.returns
returns c = search (raw-done, arith)
