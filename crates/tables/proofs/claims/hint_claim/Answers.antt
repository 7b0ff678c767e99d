use Rattle.tables.proofs.Granting.{hint-far, hint-crossed, hint-early, hint-late, hint-narrow, hint-deep, hint-so, hint-apart, tail-so, hinted-so}
use native.Mathlib.Omega.{arith}
use Rattle.tables.proofs.claims.hint_claim.Goals as goal

pub returns-then-end-gt-SOURCE : goal.returns-then-end-gt-SOURCE
returns-then-end-gt-SOURCE c = search (hint-far, arith)

pub returns-then-start-end : goal.returns-then-start-end
returns-then-start-end c = search (hint-crossed, arith)

pub returns-then-width-start : goal.returns-then-width-start
returns-then-width-start c = search (hint-early, arith)

pub returns-then-from-to : goal.returns-then-from-to
returns-then-from-to c = search (hint-late, arith)

pub returns-then-width-from : goal.returns-then-width-from
returns-then-width-from c = search (hint-narrow, arith)

pub returns-then-up-ge-SHIFT : goal.returns-then-up-ge-SHIFT
returns-then-up-ge-SHIFT c = search (hint-deep, arith)

pub returns-then-same_row : goal.returns-then-same_row
returns-then-same_row c =
    let far = c.if-end-gt-SOURCE.false in
    let crossed = c.if-start-end.false in
    let tail = tail-so _ _ _ far crossed c.width.ensures c.if-width-start.false in
    let hint = hinted-so _ _ _ _ _ far crossed c.hint_end-to.ensures c.if-from-to.false c.width-2.ensures c.if-width-from.false in
    hint-so _ _ c.requires _ c.hint_end-to.ensures _ c.hinted_by.ensures _ c.same_row.ensures c.if-same_row.true tail hint c.if-up-ge-SHIFT.false _ c.pack.ensures

pub returns : goal.returns
returns c = search (hint-apart, arith)
