use native.Mathlib.Omega.{arith}
use Rattle.extract.proofs.Passing.{pass-none, pass-node, pass-readable, pass-few, pass_kept, pass-last, pass-end, pass-shown, hop-from, hop-source, hop-room, hop-fits, hop-less, pass-hidden}
use borrow.Author.Rules.{rules}
use Rattle.extract.proofs.cut.cut.Goals as goal

pub loop-node-init : goal.loop-node-init
loop-node-init c = search (pass-none, arith)

pub private-requires : goal.private-requires
private-requires c = search (pass-node, arith)

pub row_of-row-requires : goal.row_of-row-requires
row_of-row-requires c = search (pass-readable, arith)

pub overflow_sub-row : goal.overflow_sub-row
overflow_sub-row c = search (hop-from, arith)

pub copy-pos-requires : goal.copy-pos-requires
copy-pos-requires c = (search (hop-source, arith), search (hop-room, arith))

pub overflow_add-node : goal.overflow_add-node
overflow_add-node c =
    omega (arith, hop-fits _ _ _ _ _ _ _ _ c.loop-node.invariant (search rules) _ c.row_of-row.ensures)

pub loop-node-smaller-then-private : goal.loop-node-smaller-then-private
loop-node-smaller-then-private c = search (hop-less, arith)

pub loop-node-preserved-then-private : goal.loop-node-preserved-then-private
loop-node-preserved-then-private c = search (pass-hidden, arith)

pub overflow_add-node-else-private : goal.overflow_add-node-else-private
overflow_add-node-else-private c = omega (arith, pass-few _ _ _ _ _ _ _ _ c.loop-node.invariant)

pub loop-node-preserved : goal.loop-node-preserved
loop-node-preserved c = search (pass-shown, arith)

pub copy-requires : goal.copy-requires
copy-requires c = (search rules, search (pass-last, arith))

pub shape_of-out : goal.shape_of-out
shape_of-out c = search (pass_kept, arith)

pub returns : goal.returns
returns c = search (pass-end, arith)
