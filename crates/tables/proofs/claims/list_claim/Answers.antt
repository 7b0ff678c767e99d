use Rattle.tables.proofs.Granting.{list-far, list-first, list-crossed, list-many, list-deep, list-so, list-apart}
use native.Mathlib.Omega.{arith}
use Rattle.tables.proofs.claims.list_claim.Goals as goal

pub returns-then-end-ge-SOURCE : goal.returns-then-end-ge-SOURCE
returns-then-end-ge-SOURCE c = search (list-far, arith)

pub returns-then-start-eq0 : goal.returns-then-start-eq0
returns-then-start-eq0 c = search (list-first, arith)

pub returns-then-start-end : goal.returns-then-start-end
returns-then-start-end c = search (list-crossed, arith)

pub returns-then-count-ge-LIST : goal.returns-then-count-ge-LIST
returns-then-count-ge-LIST c = search (list-many, arith)

pub returns-then-up-ge-SHIFT : goal.returns-then-up-ge-SHIFT
returns-then-up-ge-SHIFT c = search (list-deep, arith)

pub returns-then-same_row : goal.returns-then-same_row
returns-then-same_row c = search (list-so, arith)

pub returns : goal.returns
returns c = search (list-apart, arith)
