-- From a node to the list directly around it, again and again.
use Rattle.std.specs.Prelude.{ℕ, zero, suc}
use Rattle.model.specs.Table.{parent_of}
use Rattle.model.specs.Tree.{Tree}

-- S 4.4, from parent to parent: the node reached after so many steps
unfoldable pub climb : Tree → ℕ → ℕ → ℕ
climb t zero k = k
climb t (suc n) k = climb t n (parent_of t k)
