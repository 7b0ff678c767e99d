use Rattle.marks.proofs.Taking.{Taking}
use Prim.Native.Nat.{◌-◌}
use lib.ListN.{length}
use mathlib.Core.List.{[]}
use Rattle.model.specs.Grammar.{rules}
use Rattle.model.specs.Strings.{unbase}
use Rattle.model.proofs.Streams.{between}
use Rattle.marks.proofs.base.Given as goal

abbrev pub invariant-loop-last : goal.invariant-loop-last
invariant-loop-last l = Taking (between l.mark (unbase rules) []) l.src l.at l.pos l.initial.out l.out l.i l.o

abbrev pub decreases-loop-last : goal.decreases-loop-last
decreases-loop-last l = length l.src - l.i
