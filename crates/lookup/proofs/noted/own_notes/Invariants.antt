use Prim.Native.Nat.{◌-◌}
use Rattle.lookup.proofs.Pacing.{Claiming}
use Rattle.lookup.proofs.noted.own_notes.Given as goal

abbrev pub invariant-loop-k : goal.invariant-loop-k
invariant-loop-k l = Claiming l.canonical l.len l.table l.nodes l.initial.notes l.notes l.k

abbrev pub decreases-loop-k : goal.decreases-loop-k
decreases-loop-k l = l.nodes - l.k
