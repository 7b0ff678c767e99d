use Rattle.scan.proofs.Reaching.{Reaching}
use Rattle.scan.proofs.class_rest.Given as goal

abbrev pub invariant-loop-i : goal.invariant-loop-i
invariant-loop-i l = Reaching l.src l.at l.end l.low l.i
