use native.Mathlib.Omega.{arith}
use Rattle.lookup.proofs.Shown.{data-beyond, numbered, data-found, data-unowned}
use Rattle.lookup.proofs.data_place.Goals as goal

pub returns-then-node-nodes : goal.returns-then-node-nodes
returns-then-node-nodes c = search (data-beyond, arith)

pub number-requires : goal.number-requires
number-requires c = numbered _ _ _ _ _ _ c.own_sheet.ensures c.if-own_sheet.true 6 (omega arith) c.if-node-nodes.false

pub number-requires-then-own_sheet : goal.number-requires-then-own_sheet
number-requires-then-own_sheet c = numbered _ _ _ _ _ _ c.own_sheet.ensures c.if-own_sheet.true 7 (omega arith) c.if-node-nodes.false

pub returns-else-node-nodes : goal.returns-else-node-nodes
returns-else-node-nodes c = search (data-found, arith)

pub returns-else-own_sheet : goal.returns-else-own_sheet
returns-else-own_sheet c = search (data-unowned, arith)
