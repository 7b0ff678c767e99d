use native.Mathlib.Omega.{arith}
use Rattle.tables.proofs.Granting.{plain-far, plain-crossed, plain-early, plain-deep, plain-so, plain-apart}
use Rattle.tables.proofs.claims.plain_claim.Goals as goal

pub returns-then-end-gt-SOURCE : goal.returns-then-end-gt-SOURCE
returns-then-end-gt-SOURCE c = search (plain-far, arith)

pub returns-then-start-end : goal.returns-then-start-end
returns-then-start-end c = search (plain-crossed, arith)

pub returns-then-ahead-start : goal.returns-then-ahead-start
returns-then-ahead-start c = search (plain-early, arith)

pub returns-then-up-ge-SHIFT : goal.returns-then-up-ge-SHIFT
returns-then-up-ge-SHIFT c = search (plain-deep, arith)

pub returns-then-same_row : goal.returns-then-same_row
returns-then-same_row c = search (plain-so, arith)

pub returns : goal.returns
returns c = search (plain-apart, arith)
