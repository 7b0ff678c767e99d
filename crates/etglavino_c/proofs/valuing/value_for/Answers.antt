use Rattle.etglavino_c.proofs.ValueHanded.{for-single, for-double, for-whole, for-raw}
use native.Mathlib.Omega.{arith}
use Rattle.etglavino_c.proofs.valuing.value_for.Goals as goal

pub returns-then-kind-eq1 : goal.returns-then-kind-eq1
returns-then-kind-eq1 c = search (for-single, arith)

pub returns-then-kind-eq2 : goal.returns-then-kind-eq2
returns-then-kind-eq2 c = search (for-double, arith)

pub returns-then-kind-eq3 : goal.returns-then-kind-eq3
returns-then-kind-eq3 c = for-whole _ _ _ _ _ _ c.if-kind-eq1.false c.if-kind-eq2.false c.if-kind-eq3.true c.ranges.whole

pub returns : goal.returns
returns c = search (for-raw, arith)
