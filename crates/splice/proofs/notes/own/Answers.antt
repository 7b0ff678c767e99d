use Rattle.splice.proofs.Noting.{own-moving, own-fits, own-note}
use native.Mathlib.Omega.{arith}
use Rattle.splice.proofs.notes.own.Goals as goal

pub moved-requires : goal.moved-requires
moved-requires c = search (own-moving, arith)

pub overflow_add-result : goal.overflow_add-result
overflow_add-result c = search (own-fits, arith)

pub returns : goal.returns
returns c = search (own-note, arith)
