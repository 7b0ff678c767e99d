-- The lists around a node, by octets and by node numbers: the same lists.
use Prim.Native.Nat.{ℕ, ◌+◌, ◌-◌, ◌≤◌, ◌<◌}
use native.Mathlib.Omega.{arith}
use mathlib.Core.Path.{◌≡◌, sym, ap, ap₂, ◌∙◌}
use mathlib.Core.Bool.{true, false}
use lib.ListN.{length}
use lib.Dec.{ltb}
use borrow.Author.Tests.{lt-ltb, le-ltb, ltb-true}
use Rattle.base.proofs.Cases.{by_le, differ, picked, true-both}
use Rattle.model.specs.Edit.{one}
use Rattle.edits.specs.Place.{before, number, Place, fill, around}
use Rattle.model.specs.Table.{Row, row_of}
use Rattle.model.specs.Tree.{Tree, nil, canons, nodes, nodess}
use Rattle.model.specs.Node.{node_among, node_at}
use Rattle.edits.specs.Node.{holds}
use Rattle.edits.proofs.Find.{nodes-pos, node_at-among, node-fill}
use Rattle.edits.proofs.Sides.{Side, aside, round, sides}
use Rattle.edits.proofs.Whole.{nodess-one, locate, count_at, end-at}

module _ (s l : ℕ) (r : Row) where
  pub is-aside : r.end ≤ s → around s (s + l) r ≡ false
  is-aside h =
      by_le s r.start
      (λ k. rw (le-ltb r.start s k))
      (λ k. rw (lt-ltb r.start s k) (le-ltb (s + l) r.end (omega arith)))

  pub is-around : r.start < s → s + l < r.end → around s (s + l) r ≡ true
  is-around h k = true-both (lt-ltb r.start s h) (lt-ltb (s + l) r.end k)

-- for an earlier node, the count decides
pub holds-count : (t : Tree) (j k : ℕ) → j < k → holds t j k ≡ ltb k (j + (row_of t j).count)
holds-count t j k h = picked _ _ (lt-ltb j k h)

-- by octets and by numbers
module _ (t : Tree) (p : Place) (x : Tree) (e : one t ≡ fill p (one x)) (j : ℕ) (h : j < number p) where
  pub around-at : around (length (before p)) (length (before p) + length (canons (one x))) (row_of t j) ≡ holds t j (number p)
  around-at = by (sides t p (one x) e j h)
    where
      by : Side (row_of t j) j (number p) (nodess (one x)) (length (before p)) (length (before p) + length (canons (one x)))
          → around (length (before p)) (length (before p) + length (canons (one x))) (row_of t j) ≡ holds t j (number p)
      by (aside y z) = is-aside _ _ (row_of t j) y ∙ sym (holds-count t j (number p) h ∙ le-ltb (number p) (j + (row_of t j).count) z)
      by (round y z w v q) =
          is-around _ _ (row_of t j) z w ∙ sym (holds-count t j (number p) h ∙ lt-ltb (number p) (j + (row_of t j).count) (omega (arith, nodess-one x, nodes-pos x)))

-- ---- of two nodes, by their numbers
module _ (t : Tree) (j k : ℕ) (h : j < k) (i : k < nodes t) where
  pub node-side : Side (row_of t j) j k (row_of t k).count (row_of t k).start (row_of t k).end
  node-side =
      let a = locate t k i in
      rw (count_at t k i, end-at t k i, a.num, ← a.start) at (sides t a.place (one a.node) a.is j (omega (arith, a.num)))

  -- the records around the octets of node k are those of the nodes that hold it
  pub around-holds : around (row_of t k).start (row_of t k).end (row_of t j) ≡ holds t j k
  around-holds =
      let a = locate t k i in
      rw (end-at t k i, a.num, ← a.start) at (around-at t a.place a.node a.is j (omega (arith, a.num)))

  -- which are lists
  pub holds-list : holds t j k ≡ true → (row_of t j).kind ≡ 2
  holds-list e = by node-side
    where
      by : Side (row_of t j) j k (row_of t k).count (row_of t k).start (row_of t k).end → (row_of t j).kind ≡ 2
      by (aside y z) = differ e (holds-count t j k h ∙ le-ltb k (j + (row_of t j).count) z)
      by (round y z w v q) = y

  -- and have it for a node of theirs
  pub holds-node : holds t j k ≡ true → node_at (node_at t j) (k - j) ≡ node_at t k
  holds-node e =
      let a = locate t j (omega arith) in
      let l : k < j + (row_of t j).count = ltb-true k (j + (row_of t j).count) (sym (holds-count t j k h) ∙ e) in
      let n : k - j < nodes a.node = omega (arith, a.count) in
      let x : number a.place + (k - j) ≡ k = omega (arith, a.num) in
      ap (λ (y : Tree). node_at y (k - j)) a.is_node
      ∙ sym (node_at-among a.node nil (k - j) n)
      ∙ sym (node-fill a.place (one a.node) (k - j) (omega (arith, nodess-one a.node)))
      ∙ ap₂ node_among (sym a.is) x
      ∙ node_at-among t nil k i
