use Prim.Native.Nat.{◌-◌}
use Rattle.spelling.proofs.Spellings.{Escapes}
use Rattle.spelling.proofs.put_escaped.Given as goal

abbrev pub invariant-loop-i : goal.invariant-loop-i
invariant-loop-i l = Escapes l.src l.from l.end l.pos l.initial.out l.out l.i l.o

abbrev pub decreases-loop-i : goal.decreases-loop-i
decreases-loop-i l = l.end - l.i
