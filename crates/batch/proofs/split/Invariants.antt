use lib.ListN.{length}
use Prim.Native.Nat.{◌-◌}
use Rattle.batch.proofs.Going.{Going}
use Rattle.batch.proofs.split.Given as goal

abbrev pub invariant-loop-at : goal.invariant-loop-at
invariant-loop-at l = Going l.run l.at l.opened

abbrev pub decreases-loop-at : goal.decreases-loop-at
decreases-loop-at l = length l.run - l.at
