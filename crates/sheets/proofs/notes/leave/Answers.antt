use Rattle.sheets.proofs.Keeping.{leave_none, leave-long, leave-start, leave-packs, leave-number, leave-small, leave-kept}
use native.Mathlib.Omega.{arith}
use Rattle.sheets.proofs.notes.leave.Goals as goal

pub returns-then-opened-ge-DEPTH : goal.returns-then-opened-ge-DEPTH
returns-then-opened-ge-DEPTH c = search (leave_none, arith)

pub up_of-up-requires : goal.up_of-up-requires
up_of-up-requires c = search (leave-long, arith)

pub overflow_add-start : goal.overflow_add-start
overflow_add-start c = omega (arith, leave-start _ _ _ _ _ c.requires c.if-opened-ge-DEPTH.false)

pub pack-requires : goal.pack-requires
pack-requires c = leave-packs _ _ _ _ _ c.requires c.if-opened-ge-DEPTH.false

pub overflow_sub-seen : goal.overflow_sub-seen
overflow_sub-seen c = search (leave-number, arith)

pub keep-requires : goal.keep-requires
keep-requires c = search (leave-small, arith)

pub returns : goal.returns
returns c = search (leave-kept, arith)
