use Rattle.lookup.specs.Agreed.{Block}
use Rattle.lookup.proofs.parts.block_equal.Given as goal

abbrev pub invariant-loop-k : goal.invariant-loop-k
invariant-loop-k l = Block l.a l.b l.at l.k l.so
