use Rattle.splice.proofs.Noting.{later-fits, later-low, later-inside, later-behind}
use native.Mathlib.Omega.{arith}
use Rattle.splice.proofs.notes.later.Goals as goal

pub returns-then-note-first : goal.returns-then-note-first
returns-then-note-first c = search (later-inside, arith)

pub overflow_add-result : goal.overflow_add-result
overflow_add-result c = search (later-fits, arith)

pub overflow_sub-result : goal.overflow_sub-result
overflow_sub-result c = search (later-low, arith)

pub returns : goal.returns
returns c = search (later-behind, arith)
