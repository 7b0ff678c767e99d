use native.Mathlib.Omega.{arith}
use Rattle.lookup.proofs.Shown.{hint-beyond, numbered, hint-other, hint-found, hint-unowned}
use Rattle.lookup.proofs.hint_place.Goals as goal

pub returns-then-node-nodes : goal.returns-then-node-nodes
returns-then-node-nodes c = search (hint-beyond, arith)

pub number-requires : goal.number-requires
number-requires c = numbered _ _ _ _ _ _ c.own_sheet.ensures c.if-own_sheet.true 0 (omega arith) c.if-node-nodes.false

pub returns-then-number-ne1 : goal.returns-then-number-ne1
returns-then-number-ne1 c = search (hint-other, arith)

pub number-requires-then-own_sheet : goal.number-requires-then-own_sheet
number-requires-then-own_sheet c = numbered _ _ _ _ _ _ c.own_sheet.ensures c.if-own_sheet.true 4 (omega arith) c.if-node-nodes.false

pub number-requires-then-own_sheet-2 : goal.number-requires-then-own_sheet-2
number-requires-then-own_sheet-2 c = numbered _ _ _ _ _ _ c.own_sheet.ensures c.if-own_sheet.true 5 (omega arith) c.if-node-nodes.false

pub returns-else-number-ne1 : goal.returns-else-number-ne1
returns-else-number-ne1 c = search (hint-found, arith)

pub returns-else-own_sheet : goal.returns-else-own_sheet
returns-else-own_sheet c = search (hint-unowned, arith)
