use native.Mathlib.Omega.{arith}
use Rattle.spelling.proofs.Spellings.{escape-start, escape-room, copy-source, copy-room, escape-on, escape_end, escape-long}
use Rattle.spelling.proofs.put_escaped.Goals as goal

pub loop-i-init : goal.loop-i-init
loop-i-init c = search (escape-start, arith)

pub put_two-p-requires : goal.put_two-p-requires
put_two-p-requires c = search (escape-room, arith)

pub copy-o-requires : goal.copy-o-requires
copy-o-requires c = (search (copy-source, arith), search (copy-room, arith))

pub loop-i-preserved : goal.loop-i-preserved
loop-i-preserved c = search (escape-on, arith)

pub shape_of-out : goal.shape_of-out
shape_of-out c = search (escape-long, arith)

pub returns : goal.returns
returns c = search (escape_end, arith)
