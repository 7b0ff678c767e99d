-- What is judged of a tree by its sizes.
use Rattle.std.specs.Prelude.{ℕ, ltb}
use Rattle.base.specs.Choice.{pick}
use Rattle.model.specs.Limits.{max_depth, max_canonical, no_refusal, refusal_depth, refusal_nodes, refusal_size}

-- rows 4 to 6, by the sizes of the tree and of the room
unfoldable pub room_verdict : ℕ → ℕ → ℕ → ℕ → ℕ → ℕ
room_verdict deep count len octets records =
    pick (ltb max_depth deep) refusal_depth
    (pick (ltb records count) refusal_nodes
    (pick (ltb max_canonical len) refusal_size
    (pick (ltb octets len) refusal_size no_refusal)))
