use Prim.Native.Nat.{◌-◌}
use lib.ListN.{length}
use Rattle.advanced.proofs.Converting.{Converting}
use Rattle.advanced.proofs.convert.Given as goal

abbrev pub invariant-loop-starts : goal.invariant-loop-starts
invariant-loop-starts l = Converting l.braces l.src l.initial.out l.initial.notes l.out l.starts l.numbers l.notes l.at l.size l.opened l.deepest l.seen

abbrev pub decreases-loop-starts : goal.decreases-loop-starts
decreases-loop-starts l = length l.src - l.at
