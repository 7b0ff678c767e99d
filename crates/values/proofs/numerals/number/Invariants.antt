use Rattle.values.proofs.Numeral.{Reading}
use Rattle.values.proofs.numerals.number.Given as goal

abbrev pub invariant-loop-i : goal.invariant-loop-i
invariant-loop-i l = Reading l.src l.start l.end l.turn l.n l.i
