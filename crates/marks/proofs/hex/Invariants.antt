use Prim.Native.Nat.{◌-◌}
use lib.ListN.{length}
use Rattle.model.specs.Grammar.{rules}
use Rattle.model.specs.Strings.{marked}
use Rattle.marks.proofs.Taking.{Taking}
use Rattle.marks.proofs.hex.Given as goal

abbrev pub invariant-loop-count : goal.invariant-loop-count
invariant-loop-count l = Taking (marked rules 35) l.src l.at l.pos l.initial.out l.out l.i l.o

abbrev pub decreases-loop-count : goal.decreases-loop-count
decreases-loop-count l = length l.src - l.i
