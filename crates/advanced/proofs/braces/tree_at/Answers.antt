use Rattle.radix64.proofs.Marks.{brace}
use Rattle.advanced.proofs.Trees.{tree-space, tree-none, tree-end, tree-within, tree-short, tree-held, tree-refused}
use native.Mathlib.Omega.{arith}
use mathlib.Core.Path.{refl}
use Rattle.advanced.proofs.braces.tree_at.Goals as goal

pub base-requires : goal.base-requires
base-requires c = (search (tree-space, arith), search brace)

pub returns-in_err-next : goal.returns-in_err-next
returns-in_err-next c = rw c.from_residual.ensures (search (tree-none, c.in_err-next.ensures, arith))

pub overflow_add-end : goal.overflow_add-end
overflow_add-end c = search (tree-end, c.in_ok-next.ensures, arith)

pub slice_bounds-part-end : goal.slice_bounds-part-end
slice_bounds-part-end c = search (tree-within, c.in_ok-next.ensures, arith)

pub note-requires : goal.note-requires
note-requires c = search (tree-short, c.in_ok-next.ensures, arith)

pub returns-in-Ok : goal.returns-in-Ok
returns-in-Ok c = search (tree-held, c.in_ok-next.ensures, arith)

pub returns-in-Err : goal.returns-in-Err
returns-in-Err c = tree-refused _ _ _ _ c.requires _ _ _ c.in_ok-next.ensures _ refl _ _ _ c.note.ensures _ c.in-Err.is
