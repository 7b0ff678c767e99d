use Rattle.radix64.proofs.Marks.{brace}
use Rattle.texts.proofs.Braces.{brace-room, brace-none, brace-more, brace-lent, brace-part, brace-short, brace-whole, brace-refused}
use native.Mathlib.Omega.{arith}
use Rattle.texts.proofs.take_braced.Goals as goal

pub base-requires : goal.base-requires
base-requires c = (search (brace-room, arith), search brace)

pub returns-in_default : goal.returns-in_default
returns-in_default c = search (brace-none, arith)

pub returns-then-next-text : goal.returns-then-next-text
returns-then-next-text c = search (brace-more, arith)

pub slice_bounds-part-end : goal.slice_bounds-part-end
slice_bounds-part-end c = search (brace-lent, arith)

pub slice_bounds-part-end-2 : goal.slice_bounds-part-end-2
slice_bounds-part-end-2 c = search (brace-part, arith)

pub note-requires : goal.note-requires
note-requires c = search (brace-short, arith)

pub returns-in-Ok : goal.returns-in-Ok
returns-in-Ok c = search (brace-whole, arith)

pub returns-in-Err : goal.returns-in-Err
returns-in-Err c = search (brace-refused, arith)
