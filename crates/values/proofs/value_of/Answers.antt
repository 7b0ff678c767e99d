use native.Mathlib.Omega.{arith}
use Rattle.values.proofs.ByKind.{kind-else}
use Rattle.values.proofs.value_of.Goals as goal

pub returns-in_default : goal.returns-in_default
returns-in_default c = search (kind-else, c.in_default, arith)
