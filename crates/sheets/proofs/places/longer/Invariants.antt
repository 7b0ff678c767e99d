use Rattle.sheets.proofs.Packing.{Digits}
use Rattle.sheets.proofs.places.longer.Given as goal

abbrev pub invariant-loop-i : goal.invariant-loop-i
invariant-loop-i l = Digits l.src l.at l.n l.i
