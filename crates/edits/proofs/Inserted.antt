-- A tree inserted, and a node removed: what the one notion of a change says of them, in sizes, octets and depth.
use Prim.Native.Nat.{ℕ, ◌+◌, ◌-◌, ◌≤◌, ◌<◌}
use native.Mathlib.Omega.{arith}
use native.Mathlib.Nat.{add-zero}
use mathlib.Core.Path.{◌≡◌, sym, ap₂, ◌∙◌}
use mathlib.Core.Option.{some}
use mathlib.Core.List.{◌++◌}
use lib.ListN.{length, take, drop}
use lib.Dec.{ltb}
use Rattle.model.specs.Edit.{one, insert, remove}
use Rattle.model.specs.Node.{node_among, node_at}
use Rattle.model.specs.Table.{Row, rows, row_of}
use Rattle.model.specs.Tree.{Tree, nil, canon, canons, nodes, nodess, depth, depths}
use Rattle.edits.specs.Element.{placed, place_octet}
use Rattle.edits.specs.Levels.{holders}
use Rattle.edits.specs.Moves.{Moves, Change}
use Rattle.edits.proofs.Changed.{change-moves, change-deep, change-shallow, change-length, change-nodes}
use Rattle.edits.proofs.Changes.{insert-change, remove-change}
use Rattle.edits.proofs.Find.{nodes-pos, node_at-among, node_at_lem}
use Rattle.edits.proofs.Gives.{node_in_lem}
use Rattle.edits.proofs.Whole.{canons-one, nodess-one, depths-one}

-- the list's place k is before node j
module _ (t : Tree) (node : ℕ) (h : node < nodes t) (k j : ℕ) (e : placed (row_of t) node k ≡ some j) where
  abbrev at : ℕ
  at = place_octet (row_of t) node j

  module _ (u : Tree) where
    abbrev put : Tree
    put = insert t node k u

    abbrev inserting : Change t put j 0 at 0 (holders (take node (rows t 0)) 0 node + 1) (one u)
    inserting = insert-change t node h k j e u

    pub insert-moves : Moves t put j 0 at 0 (one u)
    insert-moves = change-moves inserting

    pub insert-in : (at ≤ length (canon t)) × (j ≤ nodes t)
    insert-in = (omega (arith, insert-moves.octets_in), omega (arith, insert-moves.nodes_in))

    pub insert-octets : canon put ≡ take at (canon t) ++ (canon u ++ drop at (canon t))
    insert-octets = rw (canons-one, add-zero) at insert-moves.octets

    pub insert-length : length (canon put) ≡ length (canon t) + length (canon u)
    insert-length = omega (arith, rw canons-one at (change-length inserting))

    pub insert-nodes : nodes put ≡ nodes t + nodes u
    insert-nodes = omega (arith, rw nodess-one at (change-nodes inserting))

    -- node j is then the text's tree
    pub insert-node : node_at put j ≡ u
    insert-node =
        let c = inserting in
        sym (node_at-among put nil j (omega (arith, insert-nodes, insert-in.1, nodes-pos u))) ∙ ap₂ node_among c.is (sym c.at) ∙ node_at_lem c.place u

    -- the lists around its place are the list and those that hold it
    pub insert-deep : (m : ℕ) → depth t ≤ m → ltb m (depth put) ≡ ltb m (holders (take node (rows t 0)) 0 node + 1 + depth u)
    insert-deep m l = change-deep inserting m l ∙ rw depths-one

-- ---- a node removed
module _ (t : Tree) (node : ℕ) (h : node < nodes t) (p : 0 < node) where
  abbrev entry : Row
  entry = row_of t node

  abbrev left : Tree
  left = remove t node

  abbrev removing : Change t left node entry.count entry.start (entry.end - entry.start) (holders (take node (rows t 0)) 0 node) nil
  removing = remove-change t node h p

  pub remove-moves : Moves t left node entry.count entry.start (entry.end - entry.start) nil
  remove-moves = change-moves removing

  pub remove-octets : canon left ≡ take entry.start (canon t) ++ drop entry.end (canon t)
  unfolding canons
  remove-octets =
      let x : entry.start + (entry.end - entry.start) ≡ entry.end = omega (arith, (node_in_lem t node h).0) in
      rw x at remove-moves.octets

  pub remove-length : length (canon left) + (entry.end - entry.start) ≡ length (canon t)
  unfolding canons
  remove-length = omega (arith, change-length removing)

  pub remove-nodes : nodes left + entry.count ≡ nodes t
  unfolding nodess
  remove-nodes = omega (arith, change-nodes removing)

  pub remove-shallow : depth left ≤ depth t
  unfolding depths
  remove-shallow = change-shallow removing (omega arith)
