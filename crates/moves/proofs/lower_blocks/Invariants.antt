use Prim.Native.Nat.{◌-◌}
use Rattle.moves.specs.Moved.{Lowering}
use Rattle.moves.proofs.lower_blocks.Given as goal

abbrev pub invariant-loop-j : goal.invariant-loop-j
invariant-loop-j l = Lowering l.initial.buf l.from l.to l.delta l.buf l.j

abbrev pub decreases-loop-j : goal.decreases-loop-j
decreases-loop-j l = l.to - l.j
