use Rattle.blocks.proofs.Copies.{blocked-none, blocked-on, blocked-end, copied-plain}
use native.Mathlib.Omega.{arith}
use Rattle.blocks.proofs.copy.Goals as goal

pub returns-then-src-from : goal.returns-then-src-from
returns-then-src-from c = search (copied-plain, arith)

pub loop-k-init : goal.loop-k-init
loop-k-init c = search (blocked-none, arith)

pub loop-k-preserved : goal.loop-k-preserved
loop-k-preserved c = search (blocked-on, arith)

pub returns : goal.returns
returns c = blocked-end _ _ _ _ _ _ _ c.loop-k.invariant (omega arith) (omega arith) (omega arith)
