use Rattle.decimal.proofs.Reading.{Counting}
use Rattle.decimal.proofs.number_at.Given as goal

abbrev pub invariant-loop-i : goal.invariant-loop-i
invariant-loop-i l = Counting l.src l.at l.value l.i
