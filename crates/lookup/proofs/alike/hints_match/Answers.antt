use native.Mathlib.Omega.{arith}
use Rattle.lookup.proofs.Matching.{with-hint, with-default}
use Rattle.lookup.proofs.alike.hints_match.Goals as goal

pub returns-then-right : goal.returns-then-right
returns-then-right c = search (with-hint, arith)

pub returns-else-right : goal.returns-else-right
returns-else-right c = search (with-default, arith)
