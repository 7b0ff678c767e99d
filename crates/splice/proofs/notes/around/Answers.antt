use Rattle.splice.proofs.Moving.{grow-start, grow-growing, grow-over, grow-aside, grow-long, grow-end}
use native.Mathlib.Omega.{arith}
use borrow.Author.Rules.{rules}
use Rattle.splice.proofs.notes.around.Goals as goal
use Rattle.splice.proofs.notes.around.Goals.{then-over, else-over}

pub loop-j-init : goal.loop-j-init
loop-j-init c = search (grow-start, arith)

pub grown-requires : goal.grown-requires
grown-requires c = search (grow-growing, arith)

pub loop-j-preserved : goal.loop-j-preserved
loop-j-preserved c =
    elim c.if-over.branch [
      | then-over w ↦ rw (w.notes-is, w.up-is) (grow-over _ _ _ _ _ _ _ c.loop-j.invariant (search rules) _ c.over.ensures w.if-over.true _ w.grown.ensures)
      | else-over w ↦ rw (w.notes-is, w.up-is) (grow-aside _ _ _ _ _ _ _ c.loop-j.invariant (search rules) _ c.over.ensures w.if-over.false)
    ]

pub shape_of-notes : goal.shape_of-notes
shape_of-notes c = search (grow-long, arith)

pub returns : goal.returns
returns c = search (grow-end, arith)
