use native.Mathlib.Omega.{arith}
use Rattle.base.proofs.Lists.{front_length}
use Rattle.lookup.proofs.Pacing.{pass-next, pass-checkable, pass_on, pass-off}
use Rattle.lookup.proofs.turns.passed.Goals as goal

pub returns-then-next-nodes : goal.returns-then-next-nodes
returns-then-next-nodes c = search (pass-next, arith)

pub slice_bounds-part-end : goal.slice_bounds-part-end
slice_bounds-part-end c = search (front_length, arith)

pub own-requires : goal.own-requires
own-requires c = search (pass-checkable, arith)

pub returns-then-own : goal.returns-then-own
returns-then-own c = search (pass_on, arith)

pub returns : goal.returns
returns c = search (pass-off, arith)
