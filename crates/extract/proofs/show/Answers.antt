use Rattle.extract.proofs.Giving.{show-part, show-cuttable, show-inside, show-text, show-noteable, show-read}
use native.Mathlib.Omega.{arith}
use Rattle.extract.proofs.show.Goals as goal

pub slice_bounds-part-end : goal.slice_bounds-part-end
slice_bounds-part-end c = search (show-part, arith)

pub cut-n-requires : goal.cut-n-requires
cut-n-requires c = search (show-cuttable, arith)

pub slice_bounds-text-end : goal.slice_bounds-text-end
slice_bounds-text-end c = search (show-inside, arith)

pub slice_bounds-text-end-2 : goal.slice_bounds-text-end-2
slice_bounds-text-end-2 c = search (show-text, arith)

pub read_notes-requires : goal.read_notes-requires
read_notes-requires c = search (show-noteable, arith)

pub returns : goal.returns
returns c = search (show-read, arith)
