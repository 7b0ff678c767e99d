use Rattle.marks.proofs.Taking.{taking-none}
use Rattle.marks.proofs.Letters.{base-space, base-from, base-fits, base-rest-space, padded-fits, padded-end, still, slow-low, slow-room, slow-less, slow-on, slow-rest-low, slow-rest-few, slow-rest-room, slow-end, slow-none}
use native.Mathlib.Omega.{arith}
use borrow.Author.Rules.{rules}
use Rattle.marks.proofs.base.Goals as goal

pub loop-last-init : goal.loop-last-init
loop-last-init c = search taking-none

pub groups-j-requires : goal.groups-j-requires
groups-j-requires c = search base-space

pub overflow_sub-o : goal.overflow_sub-o
overflow_sub-o c = search (base-from, arith)

pub overflow_add-o : goal.overflow_add-o
overflow_add-o c = search (base-fits, arith)

pub closing-requires : goal.closing-requires
closing-requires c = (search base-rest-space, search rules)

pub overflow_add-count : goal.overflow_add-count
overflow_add-count c = padded-fits _ c.requires.1 _ _ _ _ _ _ _ c.loop-last.invariant _ _ c.groups-j.ensures _ _ _ c.closing.ensures _ c.in-Some.is (search rules)

pub returns-in-Some : goal.returns-in-Some
returns-in-Some c = padded-end _ c.requires.1 _ _ _ _ _ _ _ c.loop-last.invariant _ _ c.groups-j.ensures _ _ _ c.closing.ensures _ c.in-Some.is

pub put_three-o-requires : goal.put_three-o-requires
put_three-o-requires c = (slow-low _ c.requires.1 _ _ _ _ _ _ _ (still _ c.requires.1 _ _ _ _ _ _ _ c.loop-last.invariant _ _ c.groups-j.ensures _ _ _ c.closing.ensures c.in_default.is) _ c.group_at.ensures _ c.in-Some-Four.is _ _ _ _ _ c.in-Some-Four.field-0-is, slow-room _ c.requires.1 _ _ _ _ _ _ _ (still _ c.requires.1 _ _ _ _ _ _ _ c.loop-last.invariant _ _ c.groups-j.ensures _ _ _ c.closing.ensures c.in_default.is) _ c.group_at.ensures _ c.in-Some-Four.is _ _ _ _ _ c.in-Some-Four.field-0-is)

pub loop-last-smaller : goal.loop-last-smaller
loop-last-smaller c = slow-less _ c.requires.1 _ _ _ _ _ _ _ (still _ c.requires.1 _ _ _ _ _ _ _ c.loop-last.invariant _ _ c.groups-j.ensures _ _ _ c.closing.ensures c.in_default.is) _ c.group_at.ensures _ c.in-Some-Four.is _ _ _ _ _ c.in-Some-Four.field-0-is _ (base-from _ c.requires.1 _ _ _ _ _ _ _ c.loop-last.invariant _ _ c.groups-j.ensures)

pub loop-last-preserved : goal.loop-last-preserved
loop-last-preserved c = slow-on _ c.requires.1 _ _ _ _ _ _ _ (still _ c.requires.1 _ _ _ _ _ _ _ c.loop-last.invariant _ _ c.groups-j.ensures _ _ _ c.closing.ensures c.in_default.is) _ c.group_at.ensures _ c.in-Some-Four.is _ _ _ _ _ c.in-Some-Four.field-0-is _ _ c.put_three-o.ensures

pub put_last-end-requires : goal.put_last-end-requires
put_last-end-requires c = (slow-rest-low _ c.requires.1 _ _ _ _ _ _ _ (still _ c.requires.1 _ _ _ _ _ _ _ c.loop-last.invariant _ _ c.groups-j.ensures _ _ _ c.closing.ensures c.in_default.is) _ c.group_at.ensures _ c.in-Some-Rest.is _ _ _ _ _ c.in-Some-Rest.field-0-is, slow-rest-few _ c.requires.1 _ _ _ _ _ _ _ (still _ c.requires.1 _ _ _ _ _ _ _ c.loop-last.invariant _ _ c.groups-j.ensures _ _ _ c.closing.ensures c.in_default.is) _ c.group_at.ensures _ c.in-Some-Rest.is _ _ _ _ _ c.in-Some-Rest.field-0-is, slow-rest-room _ c.requires.1 _ _ _ _ _ _ _ (still _ c.requires.1 _ _ _ _ _ _ _ c.loop-last.invariant _ _ c.groups-j.ensures _ _ _ c.closing.ensures c.in_default.is) _ c.group_at.ensures _ c.in-Some-Rest.is _ _ _ _ _ c.in-Some-Rest.field-0-is)

pub returns-in-Some-Rest : goal.returns-in-Some-Rest
returns-in-Some-Rest c = slow-end _ c.requires.1 _ _ _ _ _ _ _ (still _ c.requires.1 _ _ _ _ _ _ _ c.loop-last.invariant _ _ c.groups-j.ensures _ _ _ c.closing.ensures c.in_default.is) _ c.group_at.ensures _ c.in-Some-Rest.is _ _ _ _ _ c.in-Some-Rest.field-0-is _ _ c.put_last-end.ensures

pub returns-in-None : goal.returns-in-None
returns-in-None c = slow-none _ c.requires.1 _ _ _ _ _ _ _ (still _ c.requires.1 _ _ _ _ _ _ _ c.loop-last.invariant _ _ c.groups-j.ensures _ _ _ c.closing.ensures c.in_default.is) _ c.group_at.ensures c.in-None.is _ _
