use Rattle.plan.proofs.Spotting.{entry-readable, slot-string, slot-hoppable, slot-past, slot-shown, slot-recorded, slot_at}
use native.Mathlib.Omega.{arith}
use Rattle.plan.proofs.spots.slot.Goals as goal

pub row_of-row-requires : goal.row_of-row-requires
row_of-row-requires c = search (entry-readable, arith)

pub returns-then-row-ne2 : goal.returns-then-row-ne2
returns-then-row-ne2 c = search (slot-string, arith)

pub hop-requires : goal.hop-requires
hop-requires c = search (slot-hoppable, arith)

pub octet-at-requires : goal.octet-at-requires
octet-at-requires c = search (slot-shown, arith)

pub level-around-requires : goal.level-around-requires
level-around-requires c = search (slot-recorded, arith)

pub returns : goal.returns
returns c = search (slot_at, arith)

pub returns-in_default : goal.returns-in_default
returns-in_default c = search (slot-past, arith)
