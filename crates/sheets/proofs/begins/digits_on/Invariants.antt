use Rattle.sheets.proofs.Beginnings.{Far}
use Rattle.sheets.proofs.begins.digits_on.Given as goal

abbrev pub invariant-loop-i : goal.invariant-loop-i
invariant-loop-i l = Far l.src l.at l.i
