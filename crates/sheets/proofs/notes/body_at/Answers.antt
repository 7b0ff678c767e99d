use Rattle.sheets.proofs.Strings.{body-1, body-2, body-3, body-4, body-5}
use native.Mathlib.Omega.{arith}
use Rattle.sheets.proofs.notes.body_at.Goals as goal

pub returns-then-len-lt12 : goal.returns-then-len-lt12
returns-then-len-lt12 c = search (body-1, arith)

pub returns-then-len-lt103 : goal.returns-then-len-lt103
returns-then-len-lt103 c = search (body-2, arith)

pub returns-then-len-lt1004 : goal.returns-then-len-lt1004
returns-then-len-lt1004 c = search (body-3, arith)

pub returns-then-len-lt10005 : goal.returns-then-len-lt10005
returns-then-len-lt10005 c = search (body-4, arith)

pub returns : goal.returns
returns c = search (body-5, arith)
