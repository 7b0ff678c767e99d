use native.Mathlib.Omega.{arith}
use Rattle.answers.proofs.Judged.{judge-row, judge-none}
use Rattle.texts.proofs.Rows.{row_low, row-high, row-long, row-none}
use Rattle.texts.proofs.row.Goals as goal

pub returns-then-form-lt1 : goal.returns-then-form-lt1
returns-then-form-lt1 c = search (judge-row, row_low, arith)

pub returns-then-form-gt4 : goal.returns-then-form-gt4
returns-then-form-gt4 c = search (judge-row, row-high, arith)

pub returns-then-len-gt-SOURCE : goal.returns-then-len-gt-SOURCE
returns-then-len-gt-SOURCE c = search (judge-row, row-long, arith)

pub returns : goal.returns
returns c = search (judge-none, row-none, arith)
