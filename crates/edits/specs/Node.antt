-- The lists around a node.
use Rattle.std.specs.Prelude.{ℕ, ◌+◌, Bool, ltb}
use Rattle.base.specs.Choice.{both}
use Rattle.model.specs.Table.{row_of}
use Rattle.model.specs.Tree.{Tree}

-- S 15.5, a list around holds the entry: node j holds node k, where k is one of the nodes that the record of j counts and not j itself
abbrev pub holds : Tree → ℕ → ℕ → Bool
holds t j k = both (ltb j k) (ltb k (j + (row_of t j).count))
