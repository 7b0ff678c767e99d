use Rattle.decimal.proofs.Writing.{More}
use Rattle.decimal.proofs.digits.put_more.Given as goal

abbrev pub invariant-loop-k : goal.invariant-loop-k
invariant-loop-k l = More l.n l.pos l.initial.out l.powers l.out l.k l.left l.i
