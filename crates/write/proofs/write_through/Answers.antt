use mathlib.Core.Path.{refl}
use Rattle.answers.specs.declared.refusal.Refusal.TheVariants.{Size}
use Rattle.answers.proofs.Judged.{refuses-writing}
use native.Mathlib.Omega.{arith}
use Rattle.write.proofs.Forms.{good_length, good-sheet, scratch-room, advanced-refused, advanced-written}
use Rattle.write.proofs.write_through.Goals as goal

pub slice_bounds-part-end : goal.slice_bounds-part-end
slice_bounds-part-end c = search (good_length, arith)

pub put_advanced-len-requires-clause-sheet : goal.put_advanced-len-requires-clause-sheet
put_advanced-len-requires-clause-sheet c = search (good-sheet, arith)

pub put_advanced-len-requires-clause-src_in_bounds : goal.put_advanced-len-requires-clause-src_in_bounds
put_advanced-len-requires-clause-src_in_bounds c = search (scratch-room, arith)

pub returns-then-len-out : goal.returns-then-len-out
returns-then-len-out c = search (advanced-refused, refuses-writing Size refl, arith)

pub returns : goal.returns
returns c = search (advanced-written, arith)
