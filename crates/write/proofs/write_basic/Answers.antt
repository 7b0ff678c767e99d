use mathlib.Core.Path.{refl}
use Rattle.answers.specs.declared.refusal.Refusal.TheVariants.{Size}
use Rattle.answers.proofs.Judged.{refuses-writing}
use native.Mathlib.Omega.{arith}
use Rattle.write.proofs.Forms.{good-short, basic-refused, good_length, good-sheet, basic-room, basic-written}
use Rattle.write.proofs.write_basic.Goals as goal

pub basic_len-len-requires : goal.basic_len-len-requires
basic_len-len-requires c = search (good-short, arith)

pub returns-then-len-out : goal.returns-then-len-out
returns-then-len-out c = search (basic-refused, refuses-writing Size refl, arith)

pub slice_bounds-part-end : goal.slice_bounds-part-end
slice_bounds-part-end c = search (good_length, arith)

pub put_basic-requires-clause-sheet : goal.put_basic-requires-clause-sheet
put_basic-requires-clause-sheet c = search (good-sheet, arith)

pub put_basic-requires-clause-src_in_bounds : goal.put_basic-requires-clause-src_in_bounds
put_basic-requires-clause-src_in_bounds c = search (basic-room, arith)

pub returns : goal.returns
returns c = search (basic-written, arith)
