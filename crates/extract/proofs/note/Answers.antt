use native.Mathlib.Omega.{arith}
use Rattle.extract.proofs.Giving.{note-beyond, note-long, note-deep, note-whole, note-none}
use Rattle.lookup.proofs.Sheets.{front-short}
use Rattle.base.proofs.Lists.{front_length}
use borrow.Author.Rules.{rules}
use Rattle.extract.proofs.note.Goals as goal

pub returns-then-octets-sheet : goal.returns-then-octets-sheet
returns-then-octets-sheet c = search (note-beyond, arith)

pub returns-then-octets-gt-CANONICAL : goal.returns-then-octets-gt-CANONICAL
returns-then-octets-gt-CANONICAL c = search (note-long, arith)

pub slice_bounds-part-end : goal.slice_bounds-part-end
slice_bounds-part-end c = search (front_length, arith)

pub note-requires : goal.note-requires
note-requires c = search (front-short, arith)

pub returns-then-sizes-gt-DEPTH : goal.returns-then-sizes-gt-DEPTH
returns-then-sizes-gt-DEPTH c = search (note-deep, arith)

pub returns-else-sizes-gt-DEPTH : goal.returns-else-sizes-gt-DEPTH
returns-else-sizes-gt-DEPTH c = note-whole _ _ _ _ _ c.note.ensures c.if-octets-sheet.false _ c.in-Ok.is (search rules) (search rules) (search rules)

pub returns-in-Err : goal.returns-in-Err
returns-in-Err c = search (note-none, arith)
