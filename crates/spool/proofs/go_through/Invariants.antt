use Rattle.spool.proofs.Scans.{Scanning}
use lib.ListN.{length}
use Prim.Native.Nat.{◌-◌}
use Rattle.spool.proofs.go_through.Given as goal

abbrev pub invariant-loop-at : goal.invariant-loop-at
invariant-loop-at l = Scanning l.area l.number l.at l.count l.stands

abbrev pub decreases-loop-at : goal.decreases-loop-at
decreases-loop-at l = length l.area - l.at
