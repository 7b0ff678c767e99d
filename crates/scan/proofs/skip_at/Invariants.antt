use Rattle.scan.proofs.Skips.{Skipping}
use Rattle.scan.proofs.skip_at.Given as goal

abbrev pub invariant-loop-i : goal.invariant-loop-i
invariant-loop-i l = Skipping l.src l.at l.i
