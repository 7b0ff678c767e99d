use Rattle.shifts.proofs.Inside.{known-readable}
use Rattle.shifts.proofs.Lining.{hours-string, hours-other, first-in, second-in, third-in, first-missing, second-missing, third-missing, hours-three}
use native.Mathlib.Omega.{arith}
use Rattle.shifts.proofs.lines.hours_at.Goals as goal

pub row_of-row-requires : goal.row_of-row-requires
row_of-row-requires c = search (known-readable, arith)

pub returns-then-row-ne2 : goal.returns-then-row-ne2
returns-then-row-ne2 c = search (hours-string, arith)

pub returns-then-row-ne4 : goal.returns-then-row-ne4
returns-then-row-ne4 c = search (hours-other, arith)

pub amount_at-requires : goal.amount_at-requires
amount_at-requires c = search (first-in, arith)

pub returns-in_err-ordinary : goal.returns-in_err-ordinary
returns-in_err-ordinary c =
    rw c.from_residual.ensures
    (first-missing _ _ _ _ c.requires _ c.row_of-row.ensures c.if-row-ne2.false c.if-row-ne4.false _ c.amount_at.ensures c.in_err-ordinary.was)

pub amount_at-requires-2 : goal.amount_at-requires-2
amount_at-requires-2 c = search (second-in, arith)

pub returns-in_err-night : goal.returns-in_err-night
returns-in_err-night c =
    rw c.from_residual-in_err-night.ensures
    (second-missing _ _ _ _ c.requires _ c.row_of-row.ensures c.if-row-ne2.false c.if-row-ne4.false _ c.amount_at.ensures _ c.in_ok-ordinary.was _ c.amount_at-2.ensures c.in_err-night.was)

pub amount_at-requires-3 : goal.amount_at-requires-3
amount_at-requires-3 c = search (third-in, arith)

pub returns-in_err-holiday : goal.returns-in_err-holiday
returns-in_err-holiday c =
    rw c.from_residual-in_err-holiday.ensures
    (third-missing _ _ _ _ c.requires _ c.row_of-row.ensures c.if-row-ne2.false c.if-row-ne4.false _ c.amount_at.ensures _ c.in_ok-ordinary.was _ c.amount_at-2.ensures _ c.in_ok-night.was _ c.amount_at-3.ensures c.in_err-holiday.was)

pub returns : goal.returns
returns c = search (hours-three, c.in_ok-ordinary.was, c.in_ok-night.was, c.in_ok-holiday.was, arith)
