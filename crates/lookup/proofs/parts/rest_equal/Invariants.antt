use Rattle.lookup.specs.Agreed.{Agree}
use Rattle.lookup.proofs.parts.rest_equal.Given as goal

abbrev pub invariant-loop-i : goal.invariant-loop-i
invariant-loop-i l = Agree l.a l.b l.i
