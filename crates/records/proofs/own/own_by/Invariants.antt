use Prim.Native.Nat.{◌-◌}
use Rattle.lookup.specs.Pacing.{Goes}
use Rattle.records.specs.Numbers.{numbers}
use Rattle.records.proofs.own.own_by.Given as goal

abbrev pub invariant-loop-state : goal.invariant-loop-state
invariant-loop-state l = Goes l.canonical l.len (numbers l.records) l.nodes l.end l.notes l.state

abbrev pub decreases-loop-state : goal.decreases-loop-state
decreases-loop-state l = l.end - l.state
