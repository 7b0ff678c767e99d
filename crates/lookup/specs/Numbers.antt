-- What reading a number of a record needs.
use Rattle.std.specs.Prelude.{ℕ, ◌+◌, ◌*◌, ◌≤◌, ◌<◌}
use Rattle.model.specs.Limits.{most_nodes}
use Rattle.model.specs.Table.{width}

-- a table of so many numbers has the node's record, which has a k-th number
pub record InRecord (room node k : ℕ) : Type 0 where
  pub few : node < most_nodes
  pub fits : width * (node + 1) ≤ room
  pub small : k < width
