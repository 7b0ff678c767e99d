use Rattle.base.proofs.Lists.{front_length}
use Rattle.lookup.proofs.Sheets.{front-short, sheet-beyond, sheet-long, sheet-whole, sheet-none}
use native.Mathlib.Omega.{arith}
use Rattle.lookup.proofs.sheet.Goals as goal

pub returns-then-length-canonical : goal.returns-then-length-canonical
returns-then-length-canonical c = search (sheet-beyond, arith)

pub returns-then-length-gt-CANONICAL : goal.returns-then-length-gt-CANONICAL
returns-then-length-gt-CANONICAL c = search (sheet-long, arith)

pub slice_bounds-part-end : goal.slice_bounds-part-end
slice_bounds-part-end c = search (front_length, arith)

pub measure-requires : goal.measure-requires
measure-requires c = search (front-short, arith)

pub returns-in-Ok : goal.returns-in-Ok
returns-in-Ok c = search (sheet-whole, arith)

pub returns-in-Err : goal.returns-in-Err
returns-in-Err c = search (sheet-none, arith)
