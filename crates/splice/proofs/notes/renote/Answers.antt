use Rattle.splice.proofs.Joining.{renote-growable, renote-to, renote-from, renote-few, renote-held, renote-shiftable, renote-room, renote-enterable, renoted}
use native.Mathlib.Omega.{arith}
use Rattle.splice.proofs.notes.renote.Goals as goal

pub around-up-requires : goal.around-up-requires
around-up-requires c = search (renote-growable, arith)

pub overflow_add-to : goal.overflow_add-to
overflow_add-to c = search (renote-to, arith)

pub overflow_sub-n : goal.overflow_sub-n
overflow_sub-n c = search (renote-few, arith)

pub overflow_sub-by : goal.overflow_sub-by
overflow_sub-by c = search (renote-held, arith)

pub shift-requires : goal.shift-requires
shift-requires c = search (renote-shiftable, arith)

pub offset_bounds-notes-first : goal.offset_bounds-notes-first
offset_bounds-notes-first c = search (renote-from, arith)

pub slice_bounds-part-end : goal.slice_bounds-part-end
slice_bounds-part-end c = search (renote-room, arith)

pub enter-requires : goal.enter-requires
enter-requires c = search (renote-enterable, arith)

pub returns : goal.returns
returns c = search (renoted, arith)
