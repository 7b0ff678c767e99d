use Prim.Native.Nat.{max}
use Rattle.records.proofs.Tabling.{Telling}
use Rattle.records.proofs.tell.Given as goal

abbrev pub invariant-loop-i : goal.invariant-loop-i
invariant-loop-i l = Telling l.notes l.nodes l.initial.records (max l.old l.nodes) l.i l.records
