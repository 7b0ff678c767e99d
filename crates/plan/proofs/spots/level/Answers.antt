use native.Mathlib.Omega.{arith}
use Rattle.plan.proofs.Levelling.{level-held, level-aside, level-start, level-countable, level-end}
use Rattle.plan.proofs.spots.level.Goals as goal
use Rattle.plan.proofs.spots.level.Goals.{then-over, else-over}

pub loop-j-init : goal.loop-j-init
loop-j-init c = search (level-start, arith)

pub over-requires : goal.over-requires
over-requires c = search (level-countable, arith)

pub overflow_add-level : goal.overflow_add-level
overflow_add-level c = omega (arith, c.loop-j.invariant.few)

pub loop-j-preserved : goal.loop-j-preserved
loop-j-preserved c =
    elim c.if-over.branch [
      | then-over w ↦ rw w.level-is (level-held _ _ _ _ c.loop-j.invariant c.loop-j-test.true _ c.over.ensures w.if-over.true)
      | else-over w ↦ rw w.level-is (level-aside _ _ _ _ c.loop-j.invariant c.loop-j-test.true _ c.over.ensures w.if-over.false)
    ]

pub returns : goal.returns
returns c = search (level-end, arith)
