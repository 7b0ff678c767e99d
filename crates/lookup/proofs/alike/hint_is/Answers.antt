use native.Mathlib.Omega.{arith}
use Rattle.lookup.proofs.Matching.{is-hint, is-default}
use Rattle.lookup.proofs.alike.hint_is.Goals as goal

pub returns-then-token : goal.returns-then-token
returns-then-token c = search (is-hint, arith)

pub returns-else-token : goal.returns-else-token
returns-else-token c = search (is-default, arith)
