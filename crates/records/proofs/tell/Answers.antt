use borrow.Author.Rules.{rules}
use native.Mathlib.Omega.{arith}
use Rattle.records.proofs.Tabling.{telling-none, telling-on}
use Rattle.records.proofs.tell.Goals as goal

pub loop-i-init : goal.loop-i-init
loop-i-init c = search (telling-none, arith)

pub loop-i-preserved : goal.loop-i-preserved
loop-i-preserved c = telling-on _ _ _ _ _ _ c.loop-i.invariant (search rules) _ c.record_by.ensures
