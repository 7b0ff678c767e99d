use Rattle.extract.proofs.Passing.{Passing}
use Prim.Native.Nat.{◌-◌}
use Rattle.extract.proofs.cut.cut.Given as goal

abbrev pub invariant-loop-node : goal.invariant-loop-node
invariant-loop-node l = Passing l.src l.notes l.nodes l.initial.out l.out l.node l.from l.pos

abbrev pub decreases-loop-node : goal.decreases-loop-node
decreases-loop-node l = l.nodes - l.node
