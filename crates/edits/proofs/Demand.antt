-- A node replaced: octets, records, length, node count and depth (S 15.4 to 15.6). Each is what a change does (`Changed`, `Moved`), of the
-- change that replacing is.
use Prim.Native.Nat.{ℕ, ◌+◌, ◌-◌, ◌≤◌, ◌<◌, max}
use native.Mathlib.Omega.{arith}
use mathlib.Core.Path.{◌≡◌, sym, ap, ap₂, ◌∙◌}
use mathlib.Core.Bool.{true, false}
use mathlib.Core.List.{List, ◌++◌, map}
use lib.ListN.{length, take, drop, get_or, length-take, length-map}
use Rattle.model.specs.Edit.{one, replace}
use Rattle.model.specs.Table.{Row, plain_row, rows, parents, flat, table_of, row_of, parent_of}
use Rattle.model.specs.Tree.{Tree, nil, canon, nodes, depth}
use Rattle.edits.specs.Levels.{holders}
use Rattle.edits.specs.Moves.{Moves, Change, Grows, Shifts}
use Rattle.model.specs.Node.{node_among, node_at}
use Rattle.edits.specs.Node.{holds}
use Rattle.edits.specs.Place.{level, outer, up_at, moved, around, kept, up_moved}
use Rattle.edits.proofs.Find.{nodes-pos, node_at-among, node_at_lem}
use Rattle.walk.proofs.Tabled.{flat_append, rows-length, parents-length}
use Rattle.edits.proofs.Holds.{around-holds, holds-list, holds-node}
use Rattle.edits.proofs.Moved.{octets-front, octets-entry, octets-back, octet-before, octet-new, record-new}
use Rattle.edits.proofs.Changed.{change-moves, change-back, change-length, change-nodes, change-octet, change-stays, change-grows, change-shifts, change-holds}
use Rattle.edits.proofs.Above.{inner_up, change-ups, change-up-before, change-up-new, change-up-later, change-up-at}
use Rattle.edits.proofs.Parents.{parentss-one}
use Rattle.edits.proofs.Changes.{replace-change}
use Rattle.edits.proofs.Gives.{node_in_lem}
use Rattle.edits.proofs.Whole.{canons-one, nodess-one, depths-one, rowss-one, depth-at, locate, replaced-at}

-- ---- the entry: node k, by its record
module _ (t : Tree) (k : ℕ) (h : k < nodes t) where
  abbrev entry : Row
  entry = row_of t k

  -- the record's numbers are those of the node
  pub entry-octets : entry.end ≡ entry.start + length (canon (node_at t k))
  entry-octets = let a = locate t k h in rw a.is_node (omega (arith, a.start, a.end))

  pub entry-nodes : entry.count ≡ nodes (node_at t k)
  entry-nodes = let a = locate t k h in rw a.is_node a.count

  pub entry-some : 0 < entry.count
  entry-some = omega (arith, entry-nodes, nodes-pos (node_at t k))

  pub entry_in : (entry.start ≤ entry.end) × (entry.end ≤ length (canon t)) × (k + entry.count ≤ nodes t)
  entry_in = node_in_lem t k h

  around-as : (j : ℕ) → j < k → around entry.start (entry.start + (entry.end - entry.start)) (row_of t j) ≡ holds t j k
  around-as j l = let x : entry.start + (entry.end - entry.start) ≡ entry.end = omega (arith, entry_in) in rw x (around-holds t j k l h)

  -- ---- S 15.5, the lists around are all that hold the entry, at any depth: the records around its octets are those of the nodes that hold
  -- it by number, which are lists and have it for a node of theirs
  pub lists-around : (j : ℕ) → j < k → around entry.start entry.end (row_of t j) ≡ holds t j k
  lists-around j l = around-holds t j k l h

  pub lists-around-lists : (j : ℕ) → j < k → holds t j k ≡ true → (row_of t j).kind ≡ 2
  lists-around-lists j l e = holds-list t j k l h e

  pub lists-around-hold : (j : ℕ) → j < k → holds t j k ≡ true → node_at (node_at t j) (k - j) ≡ node_at t k
  lists-around-hold j l e = holds-node t j k l h e

  -- ---- the entry replaced by the tree u
  module _ (u : Tree) where
    -- the corrected tree
    abbrev now : Tree
    now = replace t k u

    abbrev change : Change t now k entry.count entry.start (entry.end - entry.start) (holders (take k (rows t 0)) 0 k) (one u)
    change = replace-change t k h u

    pub replace-moves : Moves t now k entry.count entry.start (entry.end - entry.start) (one u)
    replace-moves = change-moves change

    -- node k is then the text's tree
    pub replace-node : node_at now k ≡ u
    replace-node =
        let a = locate t k h in
        sym (node_at-among now nil k (omega (arith, replace-moves.count, replace-moves.nodes_in, nodess-one u, nodes-pos u)))
        ∙ ap₂ node_among (replaced-at t k h u) (sym a.num) ∙ node_at_lem a.place u

    -- ---- the octets and numbers of the new length and node count
    pub replace-octets : canon now ≡ take entry.start (canon t) ++ (canon u ++ drop entry.end (canon t))
    replace-octets =
        let x : entry.start + (entry.end - entry.start) ≡ entry.end = omega (arith, entry_in.0) in
        rw (x, canons-one) at replace-moves.octets

    pub replace-length : length (canon now) + (entry.end - entry.start) ≡ length (canon t) + length (canon u)
    replace-length = rw canons-one at (change-length change)

    pub replace-nodes : nodes now + entry.count ≡ nodes t + nodes u
    replace-nodes = rw nodess-one at (change-nodes change)

    pub replace-rows : rows now 0
        ≡ map (kept entry.start (entry.end - entry.start) (length (canon u)) entry.count (nodes u)) (take k (rows t 0))
        ++ (rows u entry.start ++ map (moved (entry.end - entry.start) (length (canon u))) (drop (k + entry.count) (rows t 0)))
    replace-rows = rw (canons-one, nodess-one, rowss-one) at replace-moves.table

    -- S 15.6, parents: the lists directly around nodes, all of them
    pub replace-parents : parents now 0 0
        ≡ take k (parents t 0 0) ++ (parents u k (parent_of t k) ++ map (up_moved k entry.count (nodes u)) (drop (k + entry.count) (parents t 0 0)))
    replace-parents = rw (nodess-one, parentss-one, ← change-up-at change entry-some) at (change-ups change)

    pub replace-table : table_of now
        ≡ flat (map (kept entry.start (entry.end - entry.start) (length (canon u)) entry.count (nodes u)) (take k (rows t 0))) (take k (parents t 0 0))
        ++ (flat (rows u entry.start) (parents u k (parent_of t k))
        ++ flat (map (moved (entry.end - entry.start) (length (canon u))) (drop (k + entry.count) (rows t 0))) (map (up_moved k entry.count (nodes u)) (drop (k + entry.count) (parents t 0 0))))
    unfolding table_of
    replace-table =
        ap₂ flat replace-rows replace-parents
        ∙ flat_append _ _ (take k (parents t 0 0)) _ (length-take k (parents t 0 0) ∙ omega (arith, parents-length t 0 0, rows-length t 0, length-take k (rows t 0), length-map (take k (rows t 0)) (kept entry.start (entry.end - entry.start) (length (canon u)) entry.count (nodes u))))
        ∙ ap (λ (x : List ℕ). flat (map (kept entry.start (entry.end - entry.start) (length (canon u)) entry.count (nodes u)) (take k (rows t 0))) (take k (parents t 0 0)) ++ x)
        (flat_append (rows u entry.start) _ (parents u k (parent_of t k)) _ (parents-length u k (parent_of t k) ∙ sym (rows-length u entry.start)))

    -- the number of an earlier record stays
    pub parent-stays : (j : ℕ) → j < k → parent_of now j ≡ parent_of t j
    parent-stays j l = change-up-before change j l

    -- the entry stands in the list in which it stood, and within it the text's numbers count from it
    pub parent-entry : parent_of now k ≡ parent_of t k
    parent-entry =
        change-up-at (change-back change) (omega (arith, nodess-one u, nodes-pos u)) ∙ sym (change-up-at change entry-some)

    pub parent-inside : (i : ℕ) → 0 < i → i < nodes u → parent_of now (k + i) ≡ k + parent_of u i
    parent-inside i p l =
        change-up-new change i (omega (arith, nodess-one u))
        ∙ ap (λ (x : List ℕ). get_or x i 0) (parentss-one u k (up_at change.place 0 0)) ∙ inner_up u k (up_at change.place 0 0) i p l

    -- a later record's stays where the list begins before the entry, and is shifted by the change in node count elsewhere
    pub parent-shifts : (j j' : ℕ) → k + entry.count ≤ j → j < nodes t → j' + nodes t ≡ j + nodes now → parent_of now j' ≡ up_moved k entry.count (nodes u) (parent_of t j)
    parent-shifts j j' l i e = change-up-later change j j' l i e ∙ ap (λ (n : ℕ). up_moved k entry.count n (parent_of t j)) (nodess-one u)

    -- ---- S 15.4: octets before the entry's start stay
    pub octets-before-stay : take entry.start (canon now) ≡ take entry.start (canon t)
    octets-before-stay = octets-front replace-moves

    pub octet-before-stays : (i : ℕ) → i < entry.start → get_or (canon now) i 0 ≡ get_or (canon t) i 0
    octet-before-stays i l = octet-before replace-moves i l

    -- the entry's own octets are the text's
    pub octets-entry-new : take (length (canon u)) (drop entry.start (canon now)) ≡ canon u
    octets-entry-new = rw canons-one at (octets-entry replace-moves)

    pub octet-entry-new : (i : ℕ) → i < length (canon u) → get_or (canon now) (entry.start + i) 0 ≡ get_or (canon u) i 0
    octet-entry-new i l =
        octet-new replace-moves i (rw canons-one l) ∙ ap (λ (s : List ℕ). get_or s i 0) (canons-one u)

    -- S 15.4: octets from its end to the old length are the same in the same order; octet i is then octet i', where i' is i and the new
    -- length less the old
    pub octets-after-same : drop (entry.start + length (canon u)) (canon now) ≡ drop entry.end (canon t)
    octets-after-same =
        let x : entry.start + (entry.end - entry.start) ≡ entry.end = omega (arith, entry_in.0) in
        rw (x, canons-one) at (octets-back replace-moves)

    pub octet-after-moves : (i i' : ℕ) → entry.end ≤ i → i' + length (canon t) ≡ i + length (canon now) → get_or (canon now) i' 0 ≡ get_or (canon t) i 0
    octet-after-moves i i' l e = change-octet change i i' (omega (arith, entry_in)) e

    -- ---- S 15.5: earlier records stay, but for those of the lists around
    pub record-stays : (j : ℕ) → j < k → holds t j k ≡ false → row_of now j ≡ row_of t j
    record-stays j l e = change-stays change j l (around-as j l ∙ e)

    -- S 15.5: these change in end and data end by the new length less the old, and in node count by the new node count less the old
    pub record-grows : (j : ℕ) → j < k → holds t j k ≡ true → Grows (row_of t j) (row_of now j) (length (canon t)) (length (canon now)) (nodes t) (nodes now)
    record-grows j l e = change-grows change j l (around-as j l ∙ e)

    -- the replaced node's own records are those of the text's tree, at its start
    pub record-entry : (i : ℕ) → i < nodes u → row_of now (k + i) ≡ get_or (rows u entry.start) i (plain_row 0 0 0)
    record-entry i l =
        record-new replace-moves i (rw nodess-one l)
        ∙ ap (λ (r : List Row). get_or r i (plain_row 0 0 0)) (rowss-one u entry.start)

    -- later records move with their nodes: record j is then record j', where j' is j and the new node count less the old
    pub record-shifts : (j j' : ℕ) → k + entry.count ≤ j → j < nodes t → j' + nodes t ≡ j + nodes now → Shifts (row_of t j) (row_of now j') (length (canon t)) (length (canon now))
    record-shifts j j' l i e = change-shifts change j j' l i e

    -- the lists around it hold it afterwards too, and no others do
    pub holds-still : (j : ℕ) → j < k → holds now j k ≡ holds t j k
    holds-still j l = change-holds change j l ∙ around-as j l

    -- ---- the corrected tree's depth
    pub replace-depth : depth now ≡ max (outer (locate t k h).place) (level (locate t k h).place + depth u)
    replace-depth = depth-at now (locate t k h).place (one u) (replaced-at t k h u) ∙ rw depths-one
