use Rattle.marks.proofs.Letters.{Grouping}
use Prim.Native.Nat.{◌-◌}
use lib.ListN.{length}
use Rattle.marks.proofs.groups.Given as goal

abbrev pub invariant-loop-i : goal.invariant-loop-i
invariant-loop-i l = Grouping l.src l.at l.pos l.initial.out l.out l.i l.o

abbrev pub decreases-loop-i : goal.decreases-loop-i
decreases-loop-i l = length l.src - l.i
