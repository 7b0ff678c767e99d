use native.Mathlib.Omega.{arith}
use Rattle.base.proofs.Lists.{front_length}
use Rattle.lookup.proofs.Pacing.{claims-none, claims-start, claims-record, claims-on, claims-long, claims-lost, claims-checkable, claims-end}
use Rattle.lookup.proofs.noted.own_notes.Goals as goal

pub returns-then-bound-eq0 : goal.returns-then-bound-eq0
returns-then-bound-eq0 c = search (claims-none, arith)

pub loop-k-init : goal.loop-k-init
loop-k-init c = search (claims-start, arith)

pub row_at-row-requires : goal.row_at-row-requires
row_at-row-requires c = search (claims-record, arith)

pub parent_at-parent-requires : goal.parent_at-parent-requires
parent_at-parent-requires c = search (claims-record, arith)

pub returns-in_default : goal.returns-in_default
returns-in_default c = search (claims-lost, arith)

pub loop-k-preserved-then-row-eq0 : goal.loop-k-preserved-then-row-eq0
loop-k-preserved-then-row-eq0 c = search (claims-on, arith)

pub returns-in_default-other_claim : goal.returns-in_default-other_claim
returns-in_default-other_claim c = search (claims-lost, arith)

pub loop-k-preserved : goal.loop-k-preserved
loop-k-preserved c = search (claims-on, arith)

pub slice_bounds-part-end : goal.slice_bounds-part-end
slice_bounds-part-end c = search (front_length, arith)

pub own-requires : goal.own-requires
own-requires c = search (claims-checkable, arith)

pub shape_of-notes : goal.shape_of-notes
shape_of-notes c = search (claims-long, arith)

pub returns : goal.returns
returns c = search (claims-end, arith)
