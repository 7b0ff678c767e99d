use native.Mathlib.Omega.{arith}
use Rattle.tables.proofs.Granting.{plain-deep, plain_other, short-elsewhere, short-so}
use Rattle.tables.proofs.claims.short_claim.Goals as goal

pub returns-then-row-start : goal.returns-then-row-start
returns-then-row-start c = search (short-elsewhere, arith)

pub returns-then-row : goal.returns-then-row
returns-then-row c = search (plain_other 2, arith)

pub returns-then-row-ne1 : goal.returns-then-row-ne1
returns-then-row-ne1 c = plain_other 3 _ _ c.requires.kind_value (λ e. omega arith)

pub returns-then-row-ne0 : goal.returns-then-row-ne0
returns-then-row-ne0 c = search (plain_other 4, arith)

pub returns-then-row-ne0-2 : goal.returns-then-row-ne0-2
returns-then-row-ne0-2 c = search (plain_other 5, arith)

pub returns-then-up-ge-SHIFT : goal.returns-then-up-ge-SHIFT
returns-then-up-ge-SHIFT c = search (plain-deep, arith)

pub returns : goal.returns
returns c = search (short-so, arith)
