use mathlib.Core.Path.{ap}
use Prim.Native.Nat.{ℕ}
use lib.ListN.{get_or}
use Rattle.records.specs.Told.{nil}
use Rattle.records.proofs.Looking.{starts-so, goes_so}
use Rattle.records.proofs.own.own_by.Goals as goal

pub loop-state-init : goal.loop-state-init
loop-state-init c = starts-so _ _ _ _ _ _ c.bound-end.ensures c.requires

pub loop-state-preserved : goal.loop-state-preserved
loop-state-preserved c = goes_so _ _ _ _ _ _ _ c.loop-state.invariant c.loop-state-test.true _ (ap (λ (k : ℕ). get_or c.args.records.now k nil) c.node_of-k.ensures) _ _ c.step-state.ensures c.step-state.auto.notes
