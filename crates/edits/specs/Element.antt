-- The place of the k-th element of a list, found in a table: node counts are hopped over.
use Rattle.std.specs.Prelude.{ℕ, zero, suc, ◌+◌, ◌<◌, ◌≡◌, ltb, eqb}
use Rattle.std.proofs.Math.Option.{Option, none, some}
use Rattle.base.specs.Choice.{pick}
use Rattle.model.specs.Table.{Row, row_of}
use Rattle.model.specs.Tree.{Tree, nodes}

-- from node j on, over k elements more, of a list whose nodes end before node `end`: the node number reached, none where the list ends
-- earlier
unfoldable pub element : (ℕ → Row) → ℕ → ℕ → ℕ → Option ℕ
element row end zero j = some j
element row end (suc k) j = pick (ltb j end) (element row end k (j + (row j).count)) none

-- S 8.7: the number that the k-th element gets, none where the list has no such place
unfoldable pub placed : (ℕ → Row) → ℕ → ℕ → Option ℕ
placed row node k = pick (eqb (row node).kind 2) (element row (node + (row node).count) k (node + 1)) none

-- S 15.1, where an inserted element starts and ends in the old sheet: the octet where the element that has number j so far begins, or where
-- the list's data ends
abbrev pub place_octet : (ℕ → Row) → ℕ → ℕ → ℕ
place_octet row node j = pick (ltb j (node + (row node).count)) (row j).start (row node).data_end

-- node j is the k-th element of the list that node n is
pub record Element (t : Tree) (n k j : ℕ) : Type 0 where
  pub inside : n < nodes t
  pub hops : placed (row_of t) n k ≡ some j
  pub there : j < n + (row_of t n).count
