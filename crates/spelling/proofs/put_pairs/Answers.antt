use native.Mathlib.Omega.{arith}
use Rattle.spelling.proofs.Spellings.{pair-start, pair-room, pair-on, pair_end, pair-long}
use Rattle.spelling.proofs.put_pairs.Goals as goal

pub loop-i-init : goal.loop-i-init
loop-i-init c = search (pair-start, arith)

pub put_pair-o-requires : goal.put_pair-o-requires
put_pair-o-requires c = search (pair-room, arith)

pub loop-i-preserved : goal.loop-i-preserved
loop-i-preserved c = search (pair-on, arith)

pub shape_of-out : goal.shape_of-out
shape_of-out c = search (pair-long, arith)

pub returns : goal.returns
returns c = search (pair_end, arith)
