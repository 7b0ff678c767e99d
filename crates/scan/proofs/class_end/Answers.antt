use native.Mathlib.Omega.{arith}
use Rattle.scan.proofs.Reaching.{reach-none, reach-stop, reach-on, stop-second, stop-third, stop-fourth, reach-four}
use Rattle.scan.proofs.class_end.Goals as goal

pub loop-i-init : goal.loop-i-init
loop-i-init c = search (reach-none, arith)

pub returns-then-class_of-low : goal.returns-then-class_of-low
returns-then-class_of-low c = search (reach-stop, arith)

pub returns-then-class_of-low-2 : goal.returns-then-class_of-low-2
returns-then-class_of-low-2 c = stop-second _ _ _ _ _ c.loop-i.invariant c.loop-i-test.true _ c.class_of.ensures c.if-class_of-low.false _ c.class_of-in-loop-i.ensures c.if-class_of-low-2.true

pub returns-then-class_of-low-3 : goal.returns-then-class_of-low-3
returns-then-class_of-low-3 c = stop-third _ _ _ _ _ c.loop-i.invariant c.loop-i-test.true _ c.class_of.ensures c.if-class_of-low.false _ c.class_of-in-loop-i.ensures c.if-class_of-low-2.false _ c.class_of-in-loop-i-2.ensures c.if-class_of-low-3.true

pub returns-then-class_of-low-4 : goal.returns-then-class_of-low-4
returns-then-class_of-low-4 c = stop-fourth _ _ _ _ _ c.loop-i.invariant c.loop-i-test.true _ c.class_of.ensures c.if-class_of-low.false _ c.class_of-in-loop-i.ensures c.if-class_of-low-2.false _ c.class_of-in-loop-i-2.ensures c.if-class_of-low-3.false _ c.class_of-in-loop-i-3.ensures c.if-class_of-low-4.true

pub loop-i-preserved : goal.loop-i-preserved
loop-i-preserved c = reach-four _ _ _ _ _ c.loop-i.invariant c.loop-i-test.true _ c.class_of.ensures c.if-class_of-low.false _ c.class_of-in-loop-i.ensures c.if-class_of-low-2.false _ c.class_of-in-loop-i-2.ensures c.if-class_of-low-3.false _ c.class_of-in-loop-i-3.ensures c.if-class_of-low-4.false

pub returns : goal.returns
returns c = search (reach-on, arith)
