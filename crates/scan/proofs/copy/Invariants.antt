use Rattle.scan.proofs.Copies.{Copying}
use Rattle.scan.proofs.copy.Given as goal

abbrev pub invariant-loop-k : goal.invariant-loop-k
invariant-loop-k l = Copying l.src l.from l.len l.initial.out l.pos l.out l.k
