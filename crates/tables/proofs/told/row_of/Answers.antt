use Rattle.tables.proofs.Telling.{hint-sound, hint-row, list-sound, list-row, plain-sound, plain_row_lem, tail-sound}
use native.Mathlib.Omega.{arith}
use Rattle.tables.proofs.told.row_of.Goals as goal

pub plain_by-requires : goal.plain_by-requires
plain_by-requires c = search (plain-sound, arith)

pub returns-then-third-eq0 : goal.returns-then-third-eq0
returns-then-third-eq0 c = search (plain_row_lem, arith)

pub hint_end-requires : goal.hint_end-requires
hint_end-requires c = search (tail-sound, arith)

pub hinted_by-requires : goal.hinted_by-requires
hinted_by-requires c = search (hint-sound, arith)

pub returns-then-third-lt-LIST : goal.returns-then-third-lt-LIST
returns-then-third-lt-LIST c = search (hint-row, arith)

pub list_by-requires : goal.list_by-requires
list_by-requires c = search (list-sound, arith)

pub returns : goal.returns
returns c = search (list-row, arith)
