use Prim.Native.Nat.{◌-◌}
use lib.ListN.{length}
use Rattle.sheets.proofs.Noting.{Noting}
use Rattle.sheets.proofs.note.Given as goal

abbrev pub invariant-loop-starts : goal.invariant-loop-starts
invariant-loop-starts l = Noting l.src l.initial.notes l.starts l.numbers l.notes l.at l.opened l.deepest l.seen

abbrev pub decreases-loop-starts : goal.decreases-loop-starts
decreases-loop-starts l = length l.src - l.at
