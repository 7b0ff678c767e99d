-- The node of a number, and what may be put into it.
use Rattle.std.specs.Prelude.{ℕ, zero, suc, ◌+◌, ◌-◌, Bool, false, leb, ltb}
use Rattle.base.specs.Choice.{pick}
use Rattle.model.specs.Tree.{Tree, plain, hinted, list, Forest, nil, cons, nodes}

-- node k of a forest; `node_in` counts from the first node inside the tree
unfoldable mutual
  pub node_in : Tree → ℕ → Tree
  node_in (plain d) k = plain d
  node_in (hinted h d) k = hinted h d
  node_in (list f) k = node_among f k

  pub node_among : Forest → ℕ → Tree
  node_among nil k = list nil
  node_among (cons t f) k = pick (ltb k (nodes t)) (elim k [ zero ↦ t | suc n ↦ node_in t n ]) (node_among f (k - nodes t))

-- S 1.3: a node by its number, node 0 the whole
unfoldable pub node_at : Tree → ℕ → Tree
node_at t zero = t
node_at t (suc k) = node_in t k

-- how many elements a list has, not counting what is in them
unfoldable pub elements : Forest → ℕ
elements nil = 0
elements (cons t f) = 1 + elements f

-- S 8.7: k is at most the number of elements that the list has; a string has no place
unfoldable pub has_place : Tree → ℕ → Bool
has_place (plain d) k = false
has_place (hinted h d) k = false
has_place (list f) k = leb k (elements f)
