use Rattle.values.proofs.Putting.{Putting}
use Rattle.values.proofs.numerals.put.Given as goal

abbrev pub invariant-loop-i : goal.invariant-loop-i
invariant-loop-i l = Putting l.initial.out l.k l.n l.turn l.out l.i l.m
