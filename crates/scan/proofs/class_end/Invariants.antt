use Prim.Native.Nat.{◌-◌}
use Rattle.scan.proofs.Reaching.{Reaching}
use Rattle.scan.proofs.class_end.Given as goal

abbrev pub invariant-loop-i : goal.invariant-loop-i
invariant-loop-i l = Reaching l.src l.at l.end l.low l.i

abbrev pub decreases-loop-i : goal.decreases-loop-i
decreases-loop-i l = l.end - l.i
