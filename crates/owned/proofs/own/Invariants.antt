use Prim.Native.Nat.{◌-◌}
use lib.ListN.{length}
use Rattle.owned.proofs.Owning.{Standing}
use Rattle.owned.proofs.own.Given as goal

abbrev pub invariant-loop-nodes : goal.invariant-loop-nodes
invariant-loop-nodes l = Standing l.src l.notes l.nodes l.at l.up l.opened l.seen

abbrev pub decreases-loop-nodes : goal.decreases-loop-nodes
decreases-loop-nodes l = length l.src - l.at
