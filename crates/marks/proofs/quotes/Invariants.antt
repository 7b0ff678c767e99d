use Rattle.model.specs.Grammar.{rules}
use Rattle.model.specs.Strings.{marked}
use Rattle.marks.proofs.Taking.{Taking}
use Prim.Native.Nat.{◌-◌}
use lib.ListN.{length}
use Rattle.marks.proofs.quotes.Given as goal

abbrev pub invariant-loop-octet : goal.invariant-loop-octet
invariant-loop-octet l = Taking (marked rules 34) l.src l.at l.pos l.initial.out l.out l.i l.o

abbrev pub decreases-loop-octet : goal.decreases-loop-octet
decreases-loop-octet l = length l.src - l.i
