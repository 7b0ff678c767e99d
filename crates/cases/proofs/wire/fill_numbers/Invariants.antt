use Rattle.cases.specs.Wire.{lent_number}
use Rattle.cases.proofs.Fills.{Filling}
use Rattle.cases.proofs.wire.fill_numbers.Given as goal

abbrev pub invariant-loop-i : goal.invariant-loop-i
invariant-loop-i l = Filling (lent_number l.given l.fill) l.fn.room l.room l.i
