use Rattle.values.proofs.Hints.{kind-length, kind-f32, kind-f64, kind-int, kind-none}
use native.Mathlib.Omega.{arith}
use Rattle.values.proofs.kind_of.Goals as goal

pub returns-then-end-start-ne3 : goal.returns-then-end-start-ne3
returns-then-end-start-ne3 c = search (kind-length, arith)

pub returns-then-spells : goal.returns-then-spells
returns-then-spells c = search (kind-f32, arith)

pub returns-then-spells-2 : goal.returns-then-spells-2
returns-then-spells-2 c = search (kind-f64, arith)

pub returns-then-spells-3 : goal.returns-then-spells-3
returns-then-spells-3 c = search (kind-int, arith)

pub returns : goal.returns
returns c = search (kind-none, arith)
